use Rattle.std.proofs.Common.{nat_eq, ◌∙◌}
use Rattle.std.specs.HashMap.{get}
use Rattle.asl_intrinsic_functions.proofs.Linking.{linked_push}
use Rattle.asl_intrinsic_functions.proofs.kept.Kept.with.Goals as goal

pub invariant_of-result : goal.invariant_of-result
invariant_of-result c =
    linked_push (get nat_eq c.self.inside.latest) (get nat_eq c.insert.new.self) c.self.inside.links.items c.push.new.self.items c.self.inside.items.items c.push-2.new.self.items
    c.mark-item_mark.result c.len.result c.args.item.now c.in_ok-try_clone.field-0 c.in_ok-insert.field-0 c.self.invariant c.mark-item_mark.ensures.value c.mark-item_mark.ensures.apart c.in_ok-insert.ensures.old c.in_ok-insert.ensures.updates.0 (c.len.ensures ∙ c.self.inside.items.ok.0) c.in_ok-try_clone.ensures c.in_ok-push-2.ensures.items c.in_ok-push.ensures.items
