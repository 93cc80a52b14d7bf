use Rattle.asl_def_states.proofs.Items.{template_in}
use Rattle.asl_def_states.proofs.map.Map.item_selector.Goals as goal

pub returns : goal.returns
returns c t = template_in t c.args.self.now _ c.template_of.ensures
