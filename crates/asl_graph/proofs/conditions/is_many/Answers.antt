use Rattle.std.proofs.Common.{◌∙◌, ap, sym}
use Rattle.asl_graph.specs.Conditions.{has_many}
use Rattle.asl_graph.proofs.Many.{few, many}
use Rattle.asl_graph.proofs.conditions.is_many.Goals as goal

pub returns-in_default : goal.returns-in_default
returns-in_default c = sym (few c.items.result.now c.in_default.len_below) ∙ ap has_many c.items.ensures

pub returns-in-len2-up : goal.returns-in-len2-up
returns-in-len2-up c = sym (many c.items.result.now c.in-len2-up.len_at_least) ∙ ap has_many c.items.ensures
