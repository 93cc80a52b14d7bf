use Rattle.std.proofs.Common.{length}
use Rattle.asl_run_input.specs.StepsFile.{IsStepLine}
use Rattle.asl_run_input.proofs.LinesRead.{AreRead}
use Rattle.asl_run_input.proofs.steps_file.read_steps.Given as goal

abbrev pub invariant-loop-rest : goal.invariant-loop-rest
invariant-loop-rest l = AreRead IsStepLine l.fn.bytes l.steps.items l.rest

abbrev pub decreases-loop-rest : goal.decreases-loop-rest
decreases-loop-rest l = length l.rest
