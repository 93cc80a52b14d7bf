use Rattle.std.proofs.Common.{ap, sym, ◌∙◌}
use Rattle.std.specs.Prelude.{Option, option_map}
use Rattle.std.proofs.Common.{Global}
use Rattle.std.specs.declared.sync.Arc.{Arc}
use Rattle.asl_json.specs.declared.value.Json.{Json}
use Rattle.std.specs.Arc.{arc_value}
use Rattle.asl_json_shared.specs.Sharing.{items_in, items_within}
use Rattle.asl_json_shared.proofs.Sharing.{part_is_item}
use Rattle.asl_json_shared.proofs.shared.SharedItems.item.Goals as goal

pub returns : goal.returns
returns c = part_is_item (arc_value c.in_ok-try_clone.field-0) c.args.self.now c.args.number (ap items_in c.in_ok-try_clone.ensures ∙ ap (λ (o : Option (Arc Json Global)). items_within (option_map arc_value o)) (sym c.in-Some.is) ∙ c.self.view_is) c.requires
