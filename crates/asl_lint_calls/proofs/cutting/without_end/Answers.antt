use Rattle.std.proofs.Common.{rules, sym, ◌∙◌}
use Rattle.asl_lint_calls.proofs.Ends.{end_more, end_done}
use Rattle.asl_lint_calls.proofs.cutting.without_end.Goals as goal

pub loop-before-smaller : goal.loop-before-smaller
loop-before-smaller c = (end_more c.loop-before.rest.now c.in-Some.before.now (sym c.in-Some.ensures)).1

pub loop-before-preserved : goal.loop-before-preserved
loop-before-preserved c = (sym (end_more c.loop-before.rest.now c.in-Some.before.now (sym c.in-Some.ensures)).0 ∙ c.loop-before.invariant.0, search rules)

pub returns : goal.returns
returns c = end_done c.loop-before.rest.now (sym c.in_default.ensures) ∙ c.loop-before.invariant.0
