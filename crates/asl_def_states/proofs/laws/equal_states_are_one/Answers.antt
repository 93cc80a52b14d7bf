use Rattle.asl_def_fields.specs.private.EqualLaws.{items_exact}
use Rattle.asl_def_states.specs.private.Exact.{task_exact, pass_exact, choice_rule_exact, choice_exact, delay_exact, wait_exact, parallel_exact, processor_exact, selector_exact, map_exact, succeed_exact, fail_text_exact, fail_exact, state_exact}
use Rattle.asl_def_states.proofs.laws.equal_states_are_one.Goals as goal

pub returns-clause-task : goal.returns-clause-task
returns-clause-task c = task_exact

pub returns-clause-pass : goal.returns-clause-pass
returns-clause-pass c = pass_exact

pub returns-clause-choice_rule : goal.returns-clause-choice_rule
returns-clause-choice_rule c = choice_rule_exact

pub returns-clause-choice_rules : goal.returns-clause-choice_rules
returns-clause-choice_rules c = items_exact

pub returns-clause-choice : goal.returns-clause-choice
returns-clause-choice c = choice_exact

pub returns-clause-delay : goal.returns-clause-delay
returns-clause-delay c = delay_exact

pub returns-clause-wait : goal.returns-clause-wait
returns-clause-wait c = wait_exact

pub returns-clause-parallel : goal.returns-clause-parallel
returns-clause-parallel c = parallel_exact

pub returns-clause-processor : goal.returns-clause-processor
returns-clause-processor c = processor_exact

pub returns-clause-selector : goal.returns-clause-selector
returns-clause-selector c = selector_exact

pub returns-clause-map : goal.returns-clause-map
returns-clause-map c = map_exact

pub returns-clause-succeed : goal.returns-clause-succeed
returns-clause-succeed c = succeed_exact

pub returns-clause-fail_text : goal.returns-clause-fail_text
returns-clause-fail_text c = fail_text_exact

pub returns-clause-fail : goal.returns-clause-fail
returns-clause-fail c = fail_exact

pub returns-clause-state : goal.returns-clause-state
returns-clause-state c = state_exact
