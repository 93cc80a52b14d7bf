use Rattle.std.proofs.Common.{◌∙◌}
use Rattle.asl_json_spans.proofs.Onward.{first_on}
use Rattle.asl_json_spans.proofs.reaching.step.Goals as goal

pub returns-in-len1-up : goal.returns-in-len1-up
returns-in-len1-up c = c.behind_some.ensures ∙ first_on c.args.nodes.now c.args.before.now c.args.number _ c.in-len1-up.len_at_least c.requires c.if-first-number.true
