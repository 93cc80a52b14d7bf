use Rattle.std.proofs.Common.{subst}
use Rattle.asl_intrinsic.specs.Faults.{IsCall}
use Rattle.asl_intrinsic.specs.private.View.{tree_of}
use Rattle.asl_intrinsic.proofs.Answering.{heard_call}
use Rattle.asl_intrinsic.proofs.expr.Expr.text.Goals as goal

pub returns-clause-call : goal.returns-clause-call
returns-clause-call c = subst IsCall c.self.view_is (heard_call (tree_of c.self.inside.call) c.self.inside.spelled c.self.invariant.0 c.self.invariant.1)
