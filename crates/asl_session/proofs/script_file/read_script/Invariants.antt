use Rattle.std.proofs.Common.{length}
use Rattle.asl_run_input.proofs.LinesRead.{AreRead}
use Rattle.asl_session.specs.Scripts.{IsCommandLine}
use Rattle.asl_session.proofs.script_file.read_script.Given as goal

abbrev pub invariant-loop-rest : goal.invariant-loop-rest
invariant-loop-rest l = AreRead IsCommandLine l.fn.bytes l.commands.items l.rest

abbrev pub decreases-loop-rest : goal.decreases-loop-rest
decreases-loop-rest l = length l.rest
