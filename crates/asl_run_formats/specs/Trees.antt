-- What a run prints as a tree: its input, the lines of its steps, and its outcome.
use Rattle.std.specs.Prelude.{ℕ, List, ◌++◌}
use Rattle.asl_run_input.specs.declared.setup.Setup.{Setup}
use Rattle.asl_run_input.specs.declared.step_at.StepAt.{StepAt}
use Rattle.asl_run_state.specs.Lines.{status_line}
use Rattle.asl_run_state.specs.World.{World}
use Rattle.asl_trace.specs.declared.tree.Shows.{Shows}
use Rattle.asl_trace.specs.Steps.{input_line, tree_lines}

-- of an execution that took these steps from the world w to the world u
abbrev pub tree_text : Shows → Setup → World → List StepAt → World → List ℕ
tree_text sh s w ss u = (input_line sh s.input ++ tree_lines sh s w ss) ++ status_line u.outcome
