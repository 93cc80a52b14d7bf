use Rattle.std.proofs.Common.{◌≡◌, ◌++◌, drop}
use Rattle.std.specs.Prelude.{string_bytes}
use Rattle.asl_run_input.specs.StepsFile.{steps_file}
use Rattle.asl_run_input.proofs.steps_file.put_steps.Given as goal

-- the lines so far and those of what is left are those of all
abbrev pub invariant-loop-step : goal.invariant-loop-step
invariant-loop-step l = string_bytes l.out ++ steps_file (drop l.step-index l.steps) ≡ string_bytes l.fn.out ++ steps_file l.steps
