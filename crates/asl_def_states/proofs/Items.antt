-- A Map's machine and template are there under one name.
use Rattle.std.proofs.Common.{◌≡◌, ℕ, List, true, refl, sym, ap, ◌∙◌}
use Rattle.std.specs.Prelude.{Option, Some, None, codes}
use Rattle.std.specs.Option.{option_or}
use Rattle.asl_json_data.specs.Data.{Data}
use Rattle.asl_json.specs.Meaning.{value_in}
use Rattle.asl_def_schema.specs.Canon.{Named}
use Rattle.asl_def_schema.specs.Members.{is_among}
use Rattle.asl_def_shared.specs.declared.body.Body.{Body}
use Rattle.asl_def_shared.specs.Bodies.{body_members, body_of, processor_members}
use Rattle.asl_def_shared.proofs.Names.{named}
use Rattle.asl_def_shared.proofs.Owning.{tied}
use Rattle.asl_def_states.specs.declared.map.Map.{Map as MapState}
use Rattle.asl_def_states.specs.declared.processor.Processor.{Processor}
use Rattle.asl_def_states.specs.declared.processor.Processor.TheVariants.{Iterator, ItemProcessor}
use Rattle.asl_def_states.specs.declared.processor.Selector.{Selector}
use Rattle.asl_def_states.specs.declared.processor.Selector.TheVariants.{Parameters, ItemSelector}
use Rattle.asl_def_states.specs.Show.{map_members, map_object, machine_shown, body_in, config_in, as_iterator, as_item_processor, parameters_shown, item_selector_shown, selector_shown}
use Rattle.asl_def_states.specs.Items.{processor_in, selector_in, machine_names, member_in}

either : (p : Processor) (d : Data) → option_or (as_iterator p d) (as_item_processor p d) ≡ Some d
either (Iterator b) d = refl
either (ItemProcessor c b) d = refl

processor_is : (t : List Named) (m : MapState) → processor_in (map_object t m) ≡ Some (machine_shown t m.processor)
processor_is t m =
    let d = machine_shown t m.processor in
    let older = named (codes "Iterator") (as_iterator m.processor d) (map_members t m) refl in
    let newer = named (codes "ItemProcessor") (as_item_processor m.processor d) (map_members t m) refl in
    (λ i. option_or (sym older i) (sym newer i)) ∙ either m.processor d

pub machine_of : (t : List Named) (m : MapState) (b : Body) (k : List ℕ) → b ≡ body_in m.processor → is_among k machine_names ≡ true → value_in k (body_of t b) ≡ member_in k (processor_in (map_object t m))
machine_of t m b k is among =
    ap (λ (x : Body). value_in k (body_of t x)) is
    ∙ tied machine_names (body_members t (body_in m.processor)) (processor_members t (config_in m.processor) (body_in m.processor)) k among (refl, (refl, (refl, tt)))
    ∙ ap (member_in k) (sym (processor_is t m))

whichever : (s : Option Selector) → selector_shown s ≡ option_or (parameters_shown s) (item_selector_shown s)
whichever None = refl
whichever (Some (Parameters x)) = refl
whichever (Some (ItemSelector x)) = refl

pub template_in : (t : List Named) (m : MapState) (o : Option Data) → o ≡ selector_shown m.selector → o ≡ selector_in (map_object t m)
template_in t m o is =
    let older = named (codes "Parameters") (parameters_shown m.selector) (map_members t m) refl in
    let newer = named (codes "ItemSelector") (item_selector_shown m.selector) (map_members t m) refl in
    is ∙ whichever m.selector ∙ (λ i. option_or (older i) (newer i))
