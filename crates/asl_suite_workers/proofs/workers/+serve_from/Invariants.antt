use Rattle.std.proofs.Common.{◌-◌}
use Rattle.asl_suite_workers.proofs.workers.+serve_from.Given as goal

abbrev pub decreases-serve_from : goal.decreases-serve_from
decreases-serve_from g l = l.workers - l.worker
