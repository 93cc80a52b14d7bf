-- What may cross threads: states.
use denote.Param.Send.{IsSend, IsSync, sendable}
use Rattle.std.proofs.Crossing.{crosses}
use Rattle.asl_threads_base.proofs.Values.{values}
use Rattle.asl_threads_base.proofs.Paths.{paths}
use Rattle.asl_threads_base.proofs.Members.{members}
use Rattle.asl_threads_base.proofs.Parts.{common}
use Rattle.asl_threads_base.proofs.Choices.{rule_send, rule_sync}
use Rattle.asl_def_states.specs.contracts.choice.ChoiceRule.{the_row as choice_rule_row}
use Rattle.asl_def_states.specs.contracts.choice.ChoiceRules.{the_row as choice_rules_row}
use Rattle.asl_def_states.specs.contracts.choice.Choice.{the_field as choice_field}
use Rattle.asl_def_states.specs.contracts.fail.FailText.{the_row as fail_text_row}
use Rattle.asl_def_states.specs.contracts.fail.Fail.{the_field as fail_field}
use Rattle.asl_def_states.specs.contracts.processor.Processor.{the_field as processor_field}
use Rattle.asl_def_states.specs.contracts.processor.Selector.{the_row as selector_row}
use Rattle.asl_def_states.specs.contracts.map.Map.{the_field as map_field}
use Rattle.asl_def_states.specs.contracts.parallel.Parallel.{the_field as parallel_field}
use Rattle.asl_def_states.specs.contracts.pass.Pass.{the_field as pass_field}
use Rattle.asl_def_states.specs.contracts.succeed.Succeed.{the_field as succeed_field}
use Rattle.asl_def_states.specs.contracts.task.Task.{the_field as task_field}
use Rattle.asl_def_states.specs.contracts.wait.Delay.{the_field as delay_field}
use Rattle.asl_def_states.specs.contracts.wait.Wait.{the_field as wait_field}
use Rattle.asl_def_states.specs.contracts.state.State.{the_row as state_row}

pub choice_rule_send : IsSend choice_rule_row
choice_rule_send = search (rule_send, common, sendable) depth 60 fits 20000

pub choice_rule_sync : IsSync choice_rule_row
choice_rule_sync = search (rule_sync, common, sendable) depth 60 fits 20000

pub choice_rules_send : IsSend choice_rules_row
choice_rules_send = search (choice_rule_send, crosses, sendable) depth 60 fits 20000

pub choice_rules_sync : IsSync choice_rules_row
choice_rules_sync = search (choice_rule_sync, crosses, sendable) depth 60 fits 20000

pub choice_field_send : IsSend choice_field.row
choice_field_send = search (members, common, choice_rules_send, sendable) depth 60 fits 20000

pub choice_field_sync : IsSync choice_field.row
choice_field_sync = search (members, common, choice_rules_sync, sendable) depth 60 fits 20000

pub fail_text_send : IsSend fail_text_row
fail_text_send = search (values, members, sendable) depth 60 fits 20000

pub fail_text_sync : IsSync fail_text_row
fail_text_sync = search (values, members, sendable) depth 60 fits 20000

pub fail_field_send : IsSend fail_field.row
fail_field_send = search (common, fail_text_send, sendable) depth 60 fits 20000

pub fail_field_sync : IsSync fail_field.row
fail_field_sync = search (common, fail_text_sync, sendable) depth 60 fits 20000

pub processor_field_send : IsSend processor_field.row
processor_field_send = search (members, common, sendable) depth 60 fits 20000

pub processor_field_sync : IsSync processor_field.row
processor_field_sync = search (members, common, sendable) depth 60 fits 20000

pub selector_send : IsSend selector_row
selector_send = search (paths, sendable) depth 60 fits 20000

pub selector_sync : IsSync selector_row
selector_sync = search (paths, sendable) depth 60 fits 20000

pub map_field_send : IsSend map_field.row
map_field_send = search (paths, members, common, processor_field_send, selector_send, sendable) depth 60 fits 20000

pub map_field_sync : IsSync map_field.row
map_field_sync = search (paths, members, common, processor_field_sync, selector_sync, sendable) depth 60 fits 20000

pub parallel_field_send : IsSend parallel_field.row
parallel_field_send = search (paths, members, common, sendable) depth 60 fits 20000

pub parallel_field_sync : IsSync parallel_field.row
parallel_field_sync = search (paths, members, common, sendable) depth 60 fits 20000

pub pass_field_send : IsSend pass_field.row
pass_field_send = search (values, paths, members, common, sendable) depth 60 fits 20000

pub pass_field_sync : IsSync pass_field.row
pass_field_sync = search (values, paths, members, common, sendable) depth 60 fits 20000

pub succeed_field_send : IsSend succeed_field.row
succeed_field_send = search (members, common, sendable) depth 60 fits 20000

pub succeed_field_sync : IsSync succeed_field.row
succeed_field_sync = search (members, common, sendable) depth 60 fits 20000

pub task_field_send : IsSend task_field.row
task_field_send = search (values, paths, members, common, sendable) depth 60 fits 20000

pub task_field_sync : IsSync task_field.row
task_field_sync = search (values, paths, members, common, sendable) depth 60 fits 20000

pub delay_field_send : IsSend delay_field.row
delay_field_send = search (paths, members, sendable) depth 60 fits 20000

pub delay_field_sync : IsSync delay_field.row
delay_field_sync = search (paths, members, sendable) depth 60 fits 20000

pub wait_field_send : IsSend wait_field.row
wait_field_send = search (members, common, delay_field_send, sendable) depth 60 fits 20000

pub wait_field_sync : IsSync wait_field.row
wait_field_sync = search (members, common, delay_field_sync, sendable) depth 60 fits 20000

pub state_send : IsSend state_row
state_send = search (
  task_field_send,
  pass_field_send,
  choice_field_send,
  wait_field_send,
  parallel_field_send,
  map_field_send,
  succeed_field_send,
  fail_field_send,
  sendable,
) depth 60 fits 20000

pub state_sync : IsSync state_row
state_sync = search (
  task_field_sync,
  pass_field_sync,
  choice_field_sync,
  wait_field_sync,
  parallel_field_sync,
  map_field_sync,
  succeed_field_sync,
  fail_field_sync,
  sendable,
) depth 60 fits 20000
