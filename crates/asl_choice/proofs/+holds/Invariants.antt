use Rattle.std.proofs.Common.{◌≡◌, ◌+◌, ◌*◌, drop}
use Rattle.std.specs.Prelude.{map}
use Rattle.asl_json_data.specs.Data.{chain, items_depth, members_size}
use Rattle.asl_json.specs.View.{data_of}
use Rattle.asl_choice.specs.Rules.{rule_object, rule_list, condition_named}
use Rattle.asl_choice.specs.Truth.{each, each_holds, any, any_holds}
use Rattle.asl_choice.proofs.+holds.Given as goal

abbrev pub decreases-rule::Rule::holds : goal.decreases-rule::Rule::holds
decreases-rule::Rule::holds l = 4 * members_size l.self.now + 2

abbrev pub decreases-rule::Condition::holds : goal.decreases-rule::Condition::holds
decreases-rule::Condition::holds l = 4 * members_size (condition_named l.self.now) + 1

abbrev pub decreases-truth::each_holds : goal.decreases-truth::each_holds
decreases-truth::each_holds l = 4 * items_depth (chain (map rule_object l.rules.now.items)) + 4

abbrev pub decreases-truth::any_holds : goal.decreases-truth::any_holds
decreases-truth::any_holds l = 4 * items_depth (chain (map rule_object l.alternatives.now.items)) + 4

abbrev pub invariant-truth::each_holds-loop-rule : goal.invariant-truth::each_holds-loop-rule
invariant-truth::each_holds-loop-rule l = each (rule_list l.rule-items) (data_of l.input) (data_of l.context) ≡ each_holds (chain (map rule_object (drop l.rule-index l.rule-items))) (data_of l.input) (data_of l.context)

abbrev pub invariant-truth::any_holds-loop-rule : goal.invariant-truth::any_holds-loop-rule
invariant-truth::any_holds-loop-rule l = any (rule_list l.rule-items) (data_of l.input) (data_of l.context) ≡ any_holds (chain (map rule_object (drop l.rule-index l.rule-items))) (data_of l.input) (data_of l.context)
