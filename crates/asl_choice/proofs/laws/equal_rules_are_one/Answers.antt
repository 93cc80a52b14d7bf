use Rattle.asl_choice.specs.private.EqualLaws.{comparison_decides}
use Rattle.asl_choice.proofs.Exact.{order_exact, property_exact, test_exact, rule_exact}
use Rattle.asl_choice.proofs.laws.equal_rules_are_one.Goals as goal

pub returns-clause-order : goal.returns-clause-order
returns-clause-order c = order_exact

pub returns-clause-property : goal.returns-clause-property
returns-clause-property c = property_exact

pub returns-clause-comparison : goal.returns-clause-comparison
returns-clause-comparison c = comparison_decides

pub returns-clause-test : goal.returns-clause-test
returns-clause-test c = test_exact

pub returns-clause-rule : goal.returns-clause-rule
returns-clause-rule c = rule_exact
