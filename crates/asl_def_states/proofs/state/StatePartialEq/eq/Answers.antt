use Rattle.asl_def_states.specs.private.Exact.{says_one}
use Rattle.asl_def_states.proofs.state.StatePartialEq.eq.Goals as goal

pub returns-clause-same : goal.returns-clause-same
returns-clause-same c = says_one c.are_equal.result c.args.self.now c.args.other.now c.are_equal.ensures
