-- What may cross threads: parts that several kinds of state have.
use denote.Param.Send.{IsSend, IsSync, sendable}
use Rattle.std.proofs.Crossing.{crosses}
use Rattle.asl_threads_base.proofs.Values.{values}
use Rattle.asl_threads_base.proofs.Paths.{paths}
use Rattle.asl_threads_base.proofs.Members.{members}
use Rattle.asl_def_shared.specs.contracts.target.Target.{the_row as target_row, the_field as target_field}
use Rattle.asl_def_shared.specs.contracts.target.Transition.{the_field as transition_field}
use Rattle.asl_def_shared.specs.contracts.body.Body.{the_row as body_row, the_field as body_field}
use Rattle.asl_def_shared.specs.contracts.body.Bodies.{the_row as bodies_row}
use Rattle.asl_def_shared.specs.contracts.catcher.Catcher.{the_row as catcher_row}
use Rattle.asl_def_shared.specs.contracts.catcher.Catchers.{the_row as catchers_row}
use Rattle.asl_def_shared.specs.contracts.common.Common.{the_field as common_field}
use Rattle.asl_def_shared.specs.contracts.heading.Heading.{the_field as heading_field}
use Rattle.asl_def_shared.specs.contracts.limits.TimeLimits.{the_field as time_limits_field}
use Rattle.asl_def_shared.specs.contracts.completion.Completion.{the_field as completion_field}

pub target_send : IsSend target_row
target_send = search (values, sendable) depth 60 fits 20000

pub target_sync : IsSync target_row
target_sync = search (values, sendable) depth 60 fits 20000

pub target_field_send : IsSend target_field.row
target_field_send = search (values, sendable) depth 60 fits 20000

pub target_field_sync : IsSync target_field.row
target_field_sync = search (values, sendable) depth 60 fits 20000

pub transition_field_send : IsSend transition_field.row
transition_field_send = search (target_field_send, sendable) depth 60 fits 20000

pub transition_field_sync : IsSync transition_field.row
transition_field_sync = search (target_field_sync, sendable) depth 60 fits 20000

pub body_send : IsSend body_row
body_send = search (values, target_field_send, sendable) depth 60 fits 20000

pub body_sync : IsSync body_row
body_sync = search (values, target_field_sync, sendable) depth 60 fits 20000

pub body_field_send : IsSend body_field.row
body_field_send = search (values, target_field_send, sendable) depth 60 fits 20000

pub body_field_sync : IsSync body_field.row
body_field_sync = search (values, target_field_sync, sendable) depth 60 fits 20000

pub bodies_send : IsSend bodies_row
bodies_send = search (body_send, crosses, sendable) depth 60 fits 20000

pub bodies_sync : IsSync bodies_row
bodies_sync = search (body_sync, crosses, sendable) depth 60 fits 20000

pub catcher_send : IsSend catcher_row
catcher_send = search (values, members, target_field_send, sendable) depth 60 fits 20000

pub catcher_sync : IsSync catcher_row
catcher_sync = search (values, members, target_field_sync, sendable) depth 60 fits 20000

pub catchers_send : IsSend catchers_row
catchers_send = search (catcher_send, crosses, sendable) depth 60 fits 20000

pub catchers_sync : IsSync catchers_row
catchers_sync = search (catcher_sync, crosses, sendable) depth 60 fits 20000

pub common_field_send : IsSend common_field.row
common_field_send = search (values, sendable) depth 60 fits 20000

pub common_field_sync : IsSync common_field.row
common_field_sync = search (values, sendable) depth 60 fits 20000

pub heading_field_send : IsSend heading_field.row
heading_field_send = search (values, members, sendable) depth 60 fits 20000

pub heading_field_sync : IsSync heading_field.row
heading_field_sync = search (values, members, sendable) depth 60 fits 20000

pub time_limits_field_send : IsSend time_limits_field.row
time_limits_field_send = search (members, paths, sendable) depth 60 fits 20000

pub time_limits_field_sync : IsSync time_limits_field.row
time_limits_field_sync = search (members, paths, sendable) depth 60 fits 20000

pub completion_field_send : IsSend completion_field.row
completion_field_send = search (members, paths, catchers_send, transition_field_send, sendable) depth 60 fits 20000

pub completion_field_sync : IsSync completion_field.row
completion_field_sync = search (members, paths, catchers_sync, transition_field_sync, sendable) depth 60 fits 20000

pub ruleset common = (
  target_send,
  target_sync,
  target_field_send,
  target_field_sync,
  transition_field_send,
  transition_field_sync,
  body_send,
  body_sync,
  body_field_send,
  body_field_sync,
  bodies_send,
  bodies_sync,
  catcher_send,
  catcher_sync,
  catchers_send,
  catchers_sync,
  common_field_send,
  common_field_sync,
  heading_field_send,
  heading_field_sync,
  time_limits_field_send,
  time_limits_field_sync,
  completion_field_send,
  completion_field_sync,
)
