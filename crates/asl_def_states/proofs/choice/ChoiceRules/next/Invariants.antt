use Rattle.std.proofs.Common.{◌≡◌, drop}
use Rattle.asl_json.specs.View.{data_of}
use Rattle.asl_def_states.specs.Show.{choice_rule_objects}
use Rattle.asl_def_states.specs.Choosing.{chosen_next}
use Rattle.asl_def_states.proofs.choice.ChoiceRules.next.Given as goal

abbrev pub invariant-loop-rule : goal.invariant-loop-rule
invariant-loop-rule l = chosen_next (choice_rule_objects l.rule-items) (data_of l.input) (data_of l.context) ≡ chosen_next (choice_rule_objects (drop l.rule-index l.rule-items)) (data_of l.input) (data_of l.context)
