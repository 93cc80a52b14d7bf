-- Texts have at most one run, and those that have one aren't refused.
use Rattle.std.proofs.Common.{ℕ, ◌≡◌, List, Bool, sym, ◌∙◌}
use Rattle.asl_run_input.specs.declared.fault.EmulateFault.{EmulateFault}
use Rattle.asl_run_input.specs.Emulations.{Texts, IsRefused}
use Rattle.asl_run_input.proofs.OneRun.{one_emulation, accepted_not_refused}
use Rattle.asl_run_state.specs.Lines.{is_success}
use Rattle.asl_exec.specs.RunText.{world_by, text_by}
use Rattle.asl_exec.specs.Steps.{opening}
use Rattle.asl_exec.specs.Emulations.{IsRunOf}

pub one_run : (t : Texts) (limit : ℕ) (text other : List ℕ) (good well : Bool) → IsRunOf t limit text good → IsRunOf t limit other well → (text ≡ other) × (good ≡ well)
one_run t limit text other good well r q =
    let one = one_emulation t r.setup q.setup r.steps q.steps r.accepted q.accepted in
    let texts : text_by limit r.setup r.steps ≡ text_by limit q.setup q.steps = λ i. text_by limit (one.0 i) (one.1 i) in
    let ends : is_success (world_by limit r.setup (opening r.setup) r.steps).outcome ≡ is_success (world_by limit q.setup (opening q.setup) q.steps).outcome = λ i. is_success (world_by limit (one.0 i) (opening (one.0 i)) (one.1 i)).outcome in
    (r.text_is ∙ texts ∙ sym q.text_is, r.good_is ∙ ends ∙ sym q.good_is)

pub not_refused : (t : Texts) (limit : ℕ) (text : List ℕ) (good : Bool) (f : EmulateFault) → IsRunOf t limit text good → IsRefused t f → ⊥
not_refused t limit text good f r = accepted_not_refused t r.setup r.steps f r.accepted
