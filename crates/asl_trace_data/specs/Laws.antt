-- Stages end with what the table of states says that a state gives.
use Rattle.std.specs.Prelude.{ℕ, ◌≡◌, List, [], ◌∷◌, Option, Some, None, option_map}
use Rattle.asl_json_data.specs.Data.{Data}
use Rattle.asl_json.specs.declared.value.Json.{Json}
use Rattle.asl_step_io.specs.Paths.{Given}
use Rattle.asl_kinds.specs.Members.{effective, pass_output, passed_on, selected}
use Rattle.asl_trace_data.specs.declared.stage.Stage.{Stage}
use Rattle.asl_trace_data.specs.Kinds.{effective_of, selected_of, pass_stages, passing_stages, task_stages, task_output}

-- what the last stage gives, behind one that gave this
abbrev pub last_of : Option Given → List Stage → Option Given
last_of before [] = before
last_of before (s ∷ ss) = last_of (Some s.given) ss

abbrev pub EndWith : (Data → Json → Data → List Stage) → (Data → Json → Data → Given) → Type 0
EndWith stages gives = (d : Data) (x : Json) (c : Data) → last_of None (stages d x c) ≡ Some (gives d x c)

pub record StagesEnd : Type 0 where
  pub effective : EndWith effective_of effective
  pub pass : EndWith pass_stages pass_output
  pub passing : EndWith passing_stages passed_on
  pub selecting : (r : Json) → EndWith (λ d x c. selected_of d x c r) (λ d x c. selected d x c r)
  pub task : (g : Given) → EndWith (λ d x c. task_stages d x c g) (λ d x c. task_output d x c g)
