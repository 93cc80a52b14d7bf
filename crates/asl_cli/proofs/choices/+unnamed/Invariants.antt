use Rattle.std.proofs.Common.{length}
use Rattle.asl_cli.proofs.choices.+unnamed.Given as goal

abbrev pub decreases-unnamed : goal.decreases-unnamed
decreases-unnamed l = length l.workflows.now
