use Rattle.std.proofs.Common.{◌∙◌}
use Rattle.asl_trace.proofs.AnyTable.{no_retry, no_catch}
use Rattle.asl_trace.proofs.sides.policy_of.Goals as goal

pub returns-in_default-clause-retry : goal.returns-in_default-clause-retry
returns-in_default-clause-retry c t = c.no_policy.ensures.retry ∙ no_retry t c.args.state.now c.in_default.not-Task c.in_default.not-Parallel c.in_default.not-Map

pub returns-in_default-clause-catch : goal.returns-in_default-clause-catch
returns-in_default-clause-catch c t = c.no_policy.ensures.catch ∙ no_catch t c.args.state.now c.in_default.not-Task c.in_default.not-Parallel c.in_default.not-Map
