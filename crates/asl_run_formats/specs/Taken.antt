-- The steps that a run takes.
use Rattle.std.specs.Prelude.{ℕ, zero, suc, ◌≡◌, List, [], ◌∷◌, ◌++◌, Option, Some, None}
use Rattle.asl_run_state.specs.World.{World}
use Rattle.asl_run_input.specs.declared.setup.Setup.{Setup}
use Rattle.asl_run_input.specs.declared.step_at.StepAt.{StepAt}
use Rattle.asl_exec.specs.Steps.{world_after}
use Rattle.asl_exec.specs.Driving.{Chosen, chosen, after, driven}

abbrev pub step_at : Option Chosen → List StepAt
step_at None = []
step_at (Some x) = record { place = x.0; moment = x.1 } ∷ []

-- those that come next, at most so many
abbrev pub taken : ℕ → Setup → World → List StepAt
taken zero s w = []
taken (suc n) s w = step_at (chosen s w) ++ taken n s (after s w (chosen s w))

-- those of a list; where there is no list, those that come next, at most so many
abbrev pub taken_by : ℕ → Setup → World → Option (List StepAt) → List StepAt
taken_by limit s w None = taken limit s w
taken_by limit s w (Some ss) = ss

-- those that come next lead to the world that the run leads to
abbrev pub StepsLeadThere : Type 0
StepsLeadThere =
    (n : ℕ) (s : Setup) (w : World) → world_after s w (taken n s w) ≡ driven n s w
