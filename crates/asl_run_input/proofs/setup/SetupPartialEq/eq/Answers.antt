use Rattle.asl_run_input.proofs.Alike.{says_same}
use Rattle.asl_run_input.proofs.setup.SetupPartialEq.eq.Goals as goal

pub returns-clause-same : goal.returns-clause-same
returns-clause-same c = says_same c.are_equal.result c.args.self.now c.args.other.now c.are_equal.ensures
