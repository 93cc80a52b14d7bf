use Rattle.std.proofs.Common.{[], ◌++◌, ◌∙◌, refl, ap}
use Rattle.std.specs.Prelude.{codes}
use Rattle.asl_def_fields.specs.Entries.{entries_of}
use Rattle.asl_def_shared.specs.Parts.{Slots, object, common_members, completion_members}
use Rattle.asl_def_shared.proofs.Slots.{more, if_ok}
use Rattle.asl_def_states.specs.Show.{as_iterator, as_item_processor}
use Rattle.asl_def_states.proofs.map.Map.json.Goals as goal

pub returns : goal.returns
returns c =
    let p = c.args.self.now.processor in
    let one = more [] _ _ [] _ _ _ c.in_ok-own.ensures (ap entries_of c.new.ensures.items) refl in
    let two = more [] _ _ _ _ _ _ c.in_ok-own-2.ensures one refl in
    let three = more [] _ _ _ _ _ _ c.in_ok-own-3.ensures two refl in
    let four = more [] _ _ _ _ _ _ c.in_ok-own-4.ensures three (c.in_ok-parameters.ensures ∙ c.as_parameters.ensures) in
    let five = more [] _ _ _ _ _ _ c.in_ok-own-5.ensures four (c.in_ok-item_selector.ensures ∙ c.as_item_selector.ensures) in
    if_ok _ _ c.object.result (λ j is t h. is ∙ ap (λ (es : Slots). object (common_members (codes "Map") c.args.self.now.common ++ es)) (c.in_ok-own-8.ensures ∙ ap (λ (es : Slots). es ++ completion_members c.args.self.now.completion)
    (more [] _ _ _ _ _ _ c.in_ok-own-7.ensures (more [] _ _ _ _ _ _ c.in_ok-own-6.ensures five (c.named-iterator.ensures.iterator ∙ ap (as_iterator p) h)) (c.named-iterator.ensures.item_processor ∙ ap (as_item_processor p) h)))) c.object.ensures
