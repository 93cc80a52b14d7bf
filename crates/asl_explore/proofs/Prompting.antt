-- Where a history has room, the same branches may step as without it.
use Rattle.std.proofs.Common.{ℕ, ◌≡◌, ◌≤◌, ◌∙◌, ap, refl, arith, Bool, false, List, max, Option, Some, None, if◌then◌else◌}
use Rattle.asl_step.specs.declared.record.Record.{Record}
use Rattle.asl_step.specs.declared.record.Record.TheVariants.{New, Ready, Pausing, Again, Forked, Done, Failed}
use Rattle.asl_run_branches.specs.Branches.{record_at, children_at, forker_at, is_stopped, is_busy}
use Rattle.std.specs.Prelude.{nat_lt}
use Rattle.asl_run_branches.specs.Turns.{is_crowded, limit_of}
use Rattle.asl_run_state.specs.World.{World, is_over, is_late}
use Rattle.asl_run_state.specs.Bare.{bare}
use Rattle.asl_run_state.specs.declared.refusal.Refusal.{Refusal}
use Rattle.asl_run_state.specs.declared.refusal.Refusal.TheVariants.{Over, Stopped, Busy, Slots, NotYet, HistoryFull}
use Rattle.asl_run_state.specs.Refusals.{is_full, refusal_if_full, refusal_by, refusal_at, refusal_of}
use Rattle.asl_run_input.specs.declared.setup.Setup.{Setup}
use Rattle.asl_exec.specs.Steps.{limits_in}
use Rattle.asl_explore.specs.Orders.{due, MayStep, IsPrompt}
use Rattle.asl_explore.specs.private.Reaching.{IsLeast}
use Rattle.asl_explore.proofs.Bare.{bare-accepts}

room : (w : World) → is_full w ≡ false → refusal_if_full w ≡ None
room w e = ap (λ (b : Bool). if b then Some HistoryFull else None) e

same-record : (w : World) (p : List ℕ) (now slots : ℕ) (r : Record) → refusal_if_full w ≡ None → refusal_by w p now slots r ≡ refusal_by (bare w) p now slots r
same-record w p now slots (New n x) e = ap (λ (o : Option Refusal). if is_crowded slots p w.branches then Some Slots else o) e
same-record w p now slots (Ready n x) e = e
same-record w p now slots (Pausing n x since until) e = ap (λ (o : Option Refusal). if nat_lt now until then Some (NotYet until) else o) e
same-record w p now slots (Again n x since uses until) e = ap (λ (o : Option Refusal). if nat_lt now until then Some (NotYet until) else o) e
same-record w p now slots (Forked n x since uses items) e = ap (λ (o : Option Refusal). if is_busy (children_at p w.branches) then Some Busy else o) e
same-record w p now slots (Done x) e = refl
same-record w p now slots (Failed x) e = refl

same-place : (w : World) (p : List ℕ) (now slots : ℕ) (o : Option Record) → refusal_if_full w ≡ None → refusal_at w p now slots o ≡ refusal_at (bare w) p now slots o
same-place w p now slots None e = refl
same-place w p now slots (Some r) e = ap (λ (o : Option Refusal). if is_stopped p w.branches then Some Stopped else o) (same-record w p now slots r e)

same-refusal : (w : World) (p : List ℕ) (t slots : ℕ) → refusal_if_full w ≡ None → refusal_of w p t slots ≡ refusal_of (bare w) p t slots
unfolding refusal_of
same-refusal w p t slots e = ap (λ (o : Option Refusal). if is_over w.outcome then Some Over else (if is_late (max w.last t) w.deadline then None else o)) (same-place w p (max w.last t) slots (record_at p w.branches) e)

may-too : (s : Setup) (w : World) (q : List ℕ) → is_full w ≡ false → MayStep s (bare w) q → MayStep s w q
may-too s w q e may = (may.0, same-refusal w q (due w q) (limit_of (limits_in s.machine) (forker_at q w.branches)) (room w e) ∙ may.1)

-- no branch may step before this one
pub prompt-is : (s : Setup) (w : World) (p : List ℕ) (m least : ℕ) → is_full w ≡ false → MayStep s w p × (due w p ≡ m) → IsLeast s w least → m ≤ least → IsPrompt s w p
prompt-is s w p m least e may before le = (
  (may.0.0, bare-accepts w p (due w p) (limit_of (limits_in s.machine) (forker_at p w.branches)) may.0.1),
  λ q other.
      let d = may.1 in
      let g = before q (may-too s w q e other) in
      omega (arith, d, g, le),
)
