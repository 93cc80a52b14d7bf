-- How executions end: what holds of the ends of orders.
use Rattle.std.specs.Prelude.{ℕ, ◌≡◌, true, List}
use Rattle.asl_run_state.specs.World.{World, is_over}
use Rattle.asl_run_state.specs.declared.outcome.Outcome.{Outcome}
use Rattle.asl_run_input.specs.declared.setup.Setup.{Setup}
use Rattle.asl_exec.specs.Steps.{step, opening}
use Rattle.asl_explore.specs.Orders.{due, IsTried, AreTried, after_order}
use Rattle.asl_explore.specs.declared.orders.Orders.{Orders}

-- where a world is over, this holds of its outcome and of how often states were invoked
abbrev pub EndsIn : (Outcome → List ℕ → Type 0) → World → Type 0
EndsIn P w = is_over w.outcome ≡ true → P w.outcome w.counts

-- whichever branch steps that is tried, this holds where it ends the execution
abbrev pub AreEndsIn : (Outcome → List ℕ → Type 0) → Orders → Setup → World → Type 0
AreEndsIn P o s w = (p : List ℕ) → IsTried o s w p → EndsIn P (step s w p (due w p))

-- in whatever order of these the branches step, this holds where the execution ends
abbrev pub AllEndIn : (Outcome → List ℕ → Type 0) → Orders → Setup → Type 0
AllEndIn P o s =
    (ps : List (List ℕ)) → AreTried o s (opening s) ps → EndsIn P (after_order s (opening s) ps)
