use Rattle.std.proofs.Common.{subst}
use Rattle.asl_intrinsic.specs.private.Steps.{heard}
use Rattle.asl_intrinsic.specs.private.Leads.{Fails}
use Rattle.asl_intrinsic.proofs.Least.{left_within, first_wrong}
use Rattle.asl_intrinsic.proofs.expr.at_place.Goals as goal

pub overflow_sub-result : goal.overflow_sub-result
overflow_sub-result c = left_within c.args.text.now c.in-At.left (subst (λ h. Fails h (heard c.args.text.now)) c.in-At.is c.requires)

pub returns-in-At : goal.returns-in-At
returns-in-At c = first_wrong c.args.text.now c.in-At.left (subst (λ h. Fails h (heard c.args.text.now)) c.in-At.is c.requires)
