use Rattle.std.proofs.Common.{length}
use Rattle.asl_cli.proofs.choices.+named.Given as goal

abbrev pub decreases-named : goal.decreases-named
decreases-named l = length l.workflows.now
