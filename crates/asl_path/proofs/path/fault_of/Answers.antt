use Rattle.std.proofs.Common.{subst}
use Rattle.asl_path.specs.private.Steps.{steps}
use Rattle.asl_path.specs.private.Leads.{Fails}
use Rattle.asl_path.proofs.Judging.{left_within, fault_at}
use Rattle.asl_path.proofs.path.fault_of.Goals as goal

pub overflow_sub-result : goal.overflow_sub-result
overflow_sub-result c = left_within c.args.text.now c.in-At.left (subst (λ h. Fails h (steps c.args.text.now)) c.in-At.is c.requires)

pub returns-in-At : goal.returns-in-At
returns-in-At c = fault_at c.args.text.now c.in-At.left (subst (λ h. Fails h (steps c.args.text.now)) c.in-At.is c.requires)
