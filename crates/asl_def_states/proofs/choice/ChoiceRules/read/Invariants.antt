use Rattle.std.proofs.Common.{◌≡◌, take}
use Rattle.std.specs.Prelude.{map}
use Rattle.asl_json.specs.View.{items_of}
use Rattle.asl_def_schema.specs.declared.sort.Sort.TheVariants.{Rule}
use Rattle.asl_def_schema.specs.Canon.{canon}
use Rattle.asl_def_states.specs.Show.{choice_rule_objects}
use Rattle.asl_def_states.proofs.choice.ChoiceRules.read.Given as goal

abbrev pub invariant-loop-value : goal.invariant-loop-value
invariant-loop-value l = choice_rule_objects l.rules.items ≡ map (canon Rule) (items_of (take l.value-index l.value-items))
