use Rattle.asl_run_branches.proofs.Keeping.{known-over}
use Rattle.asl_run_branches.proofs.resting.Resting.before.Goals as goal

pub returns-then-number-self-2-clause-known : goal.returns-then-number-self-2-clause-known
returns-then-number-self-2-clause-known c = λ kids known. known-over c.args.self _ kids known
