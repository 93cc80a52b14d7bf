use Rattle.std.proofs.Common.{subst}
use Rattle.asl_json.specs.View.{data_of}
use Rattle.asl_intrinsic_functions.specs.Gives.{Gives}
use Rattle.asl_intrinsic.proofs.Answering.{meaning}
use Rattle.asl_intrinsic.proofs.expr.Expr.eval.Goals as goal

pub returns-clause-tree : goal.returns-clause-tree
returns-clause-tree c = λ a h f. subst (λ o. Gives data_of o c.evaluated.result) ((meaning a c.args.self.now h f).value (data_of c.args.input.now) (data_of c.args.context.now)) c.evaluated.ensures
