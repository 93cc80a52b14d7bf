use Rattle.std.proofs.Common.{◌≡◌, ◌∙◌, Bool, true, false, refl, sym, ap}
use Rattle.std.specs.Bool.{Decides}
use Rattle.std.specs.Cmp.{unsigned_Decides}
use Rattle.asl_run_state.specs.Equal.{refusal_eq}
use Rattle.asl_run_state.specs.declared.refusal.Refusal.{Refusal}
use Rattle.asl_run_state.specs.declared.refusal.Refusal.TheVariants.{Over, NoSuchPlace, Stopped, Finished, Busy, Slots, NotYet, HistoryFull, OutOfMemory}
use Rattle.asl_run_state.proofs.refusal.equal_refusals_are_one.Goals as goal

refusal_decides : (a b : Refusal) → Decides (refusal_eq a b) (a ≡ b)
refusal_decides (NotYet s) (NotYet t) = (λ e. ap NotYet ((unsigned_Decides s t).0 e), λ e. (unsigned_Decides s t).1 (cc e))
refusal_decides Over Over = (λ e. refl, λ e. refl)
refusal_decides NoSuchPlace NoSuchPlace = (λ e. refl, λ e. refl)
refusal_decides Stopped Stopped = (λ e. refl, λ e. refl)
refusal_decides Finished Finished = (λ e. refl, λ e. refl)
refusal_decides Busy Busy = (λ e. refl, λ e. refl)
refusal_decides Slots Slots = (λ e. refl, λ e. refl)
refusal_decides HistoryFull HistoryFull = (λ e. refl, λ e. refl)
refusal_decides OutOfMemory OutOfMemory = (λ e. refl, λ e. refl)
refusal_decides a b = (λ e. absurd (cc e), λ e. absurd (cc e))

pub returns : goal.returns
returns c = refusal_decides
