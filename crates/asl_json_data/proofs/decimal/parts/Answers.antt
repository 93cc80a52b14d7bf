use Rattle.std.proofs.Common.{ap, ◌∙◌}
use Rattle.asl_json_data.specs.Number.{is_point, is_mark, before, behind}
use Rattle.asl_json_data.proofs.decimal.parts.Goals as goal

pub returns-clause-integer : goal.returns-clause-integer
returns-clause-integer c = c.at_point.ensures.before ∙ ap (before is_point) (c.at_mark.ensures.before ∙ ap (before is_mark) c.behind_minus.ensures)

pub returns-clause-fraction : goal.returns-clause-fraction
returns-clause-fraction c = c.at_point.ensures.behind ∙ ap (behind is_point) (c.at_mark.ensures.before ∙ ap (before is_mark) c.behind_minus.ensures)

pub returns-clause-exponent : goal.returns-clause-exponent
returns-clause-exponent c = c.at_mark.ensures.behind ∙ ap (behind is_mark) c.behind_minus.ensures
