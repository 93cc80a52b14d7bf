use Rattle.std.proofs.Common.{◌≡◌, drop}
use Rattle.asl_json.specs.View.{data_of}
use Rattle.asl_def_states.specs.Show.{choice_rule_objects}
use Rattle.asl_trace.specs.Deciding.{first_rule}
use Rattle.asl_trace.proofs.deciding.first_rule.Given as goal

-- none of the rules so far holds
abbrev pub invariant-loop-number : goal.invariant-loop-number
invariant-loop-number l = first_rule 0 (choice_rule_objects l.rules) (data_of l.value) (data_of l.context) ≡ first_rule l.number (choice_rule_objects (drop l.number l.rules)) (data_of l.value) (data_of l.context)
