-- Laws of steps that may change places, over all executions.
use Rattle.std.specs.Prelude.{◌≡◌, true, List, ◌∷◌, ◌++◌}
use Rattle.asl_run_state.specs.World.{World}
use Rattle.asl_run_input.specs.declared.setup.Setup.{Setup}
use Rattle.asl_run_input.specs.declared.step_at.StepAt.{StepAt}
use Rattle.asl_exec.specs.Steps.{opening, world_after}
use Rattle.asl_exec.specs.Exchanges.{IsOneEach, are_exchangeable, AreAlike, AreExchanged}

-- in each world that an execution can have, at most one branch is at each place
abbrev pub OneBranchEach : Type 0
OneBranchEach = (s : Setup) (l : List StepAt) → IsOneEach (world_after s (opening s) l).branches

-- in such a world steps that may change places do
abbrev pub StepsChangePlaces : Type 0
StepsChangePlaces =
    (s : Setup) (w : World) (a b : StepAt) → IsOneEach w.branches
    → are_exchangeable s w a b ≡ true → AreExchanged s w a b

-- so in any list of steps two neighbours that may change places do, whatever comes behind
abbrev pub NeighboursChangePlaces : Type 0
NeighboursChangePlaces =
    (s : Setup) (before : List StepAt) (a b : StepAt) (behind : List StepAt)
    → are_exchangeable s (world_after s (opening s) before) a b ≡ true
    → AreAlike (world_after s (opening s) (before ++ a ∷ b ∷ behind))
    (world_after s (opening s) (before ++ b ∷ a ∷ behind))
