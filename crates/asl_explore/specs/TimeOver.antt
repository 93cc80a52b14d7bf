-- Executions whose time is over since a step comes late.
use Rattle.std.specs.Prelude.{ℕ, ◌≡◌, ◌⊎◌, List, [], ◌∷◌, Some}
use Rattle.asl_run_state.specs.declared.outcome.Outcome.TheVariants.{TimedOut}
use Rattle.asl_run_input.specs.declared.setup.Setup.{Setup}
use Rattle.asl_run_input.specs.declared.step_at.StepAt.{StepAt}
use Rattle.asl_exec.specs.Steps.{deadline_of, opening, world_after}
use Rattle.asl_explore.specs.declared.found.Found.{Found}
use Rattle.asl_explore.specs.declared.orders.Orders.{Orders}
use Rattle.asl_explore.specs.declared.orders.Orders.TheVariants.{Every}
use Rattle.asl_explore.specs.Searches.{Shows}

-- a step of the branch at a place at the start, and one of the root when the time is over
abbrev pub late_steps : Setup → List ℕ → ℕ → List StepAt
late_steps s p deadline =
    record { place = p; moment = s.start } ∷ record { place = []; moment = deadline } ∷ []

-- such steps end as the time is over
pub record RunsOut (s : Setup) (f : Found) : Type 0 where
  pub place : List ℕ
  pub deadline : ℕ
  pub limited : deadline_of s ≡ Some deadline
  pub steps_are : f.steps.items ≡ late_steps s place deadline
  pub outcome_is : f.outcome ≡ TimedOut
  pub gives : (world_after s (opening s) f.steps.items).outcome ≡ TimedOut

-- an outcome that was found, with steps that end in it: each at the earliest moment, but for one that
-- ends the execution since it is late, where branches may be
abbrev pub IsWitnessed : Orders → Setup → Found → Type 0
IsWitnessed o s f = Shows o s f ⊎ ((o ≡ Every) × RunsOut s f)
