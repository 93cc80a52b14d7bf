-- What may cross threads: members of states.
use denote.Param.Send.{IsSend, IsSync, sendable}
use Rattle.std.proofs.Crossing.{crosses}
use Rattle.asl_threads_base.proofs.Values.{values}
use Rattle.asl_threads_base.proofs.Paths.{paths}
use Rattle.asl_def_fields.specs.contracts.number.Count.{the_row as count_row}
use Rattle.asl_def_fields.specs.contracts.number.BackoffRate.{the_row as backoff_rate_row}
use Rattle.asl_def_fields.specs.contracts.number.DelayLimit.{the_row as delay_limit_row}
use Rattle.asl_def_fields.specs.contracts.path.PathField.{the_field as path_field_field}
use Rattle.asl_def_fields.specs.contracts.path.PathOrCall.{the_field as path_or_call_field}
use Rattle.asl_def_fields.specs.contracts.retry.ErrorNames.{the_row as error_names_row}
use Rattle.asl_def_fields.specs.contracts.retry.Retrier.{the_row as retrier_row}
use Rattle.asl_def_fields.specs.contracts.retry.Retriers.{the_row as retriers_row}
use Rattle.asl_def_fields.specs.contracts.processor.ProcessorConfig.{the_row as processor_config_row}
use Rattle.asl_def_fields.specs.contracts.stamp.Stamp.{the_row as stamp_row}

pub count_send : IsSend count_row
count_send = search (values, sendable) depth 60 fits 20000

pub count_sync : IsSync count_row
count_sync = search (values, sendable) depth 60 fits 20000

pub backoff_rate_send : IsSend backoff_rate_row
backoff_rate_send = search (values, sendable) depth 60 fits 20000

pub backoff_rate_sync : IsSync backoff_rate_row
backoff_rate_sync = search (values, sendable) depth 60 fits 20000

pub delay_limit_send : IsSend delay_limit_row
delay_limit_send = search (count_send, sendable) depth 60 fits 20000

pub delay_limit_sync : IsSync delay_limit_row
delay_limit_sync = search (count_sync, sendable) depth 60 fits 20000

pub path_field_field_send : IsSend path_field_field.row
path_field_field_send = search (paths, sendable) depth 60 fits 20000

pub path_field_field_sync : IsSync path_field_field.row
path_field_field_sync = search (paths, sendable) depth 60 fits 20000

pub path_or_call_field_send : IsSend path_or_call_field.row
path_or_call_field_send = search (paths, sendable) depth 60 fits 20000

pub path_or_call_field_sync : IsSync path_or_call_field.row
path_or_call_field_sync = search (paths, sendable) depth 60 fits 20000

pub error_names_send : IsSend error_names_row
error_names_send = search (values, crosses, sendable) depth 60 fits 20000

pub error_names_sync : IsSync error_names_row
error_names_sync = search (values, crosses, sendable) depth 60 fits 20000

pub retrier_send : IsSend retrier_row
retrier_send = search (values, error_names_send, count_send, backoff_rate_send, delay_limit_send, sendable) depth 60 fits 20000

pub retrier_sync : IsSync retrier_row
retrier_sync = search (values, error_names_sync, count_sync, backoff_rate_sync, delay_limit_sync, sendable) depth 60 fits 20000

pub retriers_send : IsSend retriers_row
retriers_send = search (retrier_send, crosses, sendable) depth 60 fits 20000

pub retriers_sync : IsSync retriers_row
retriers_sync = search (retrier_sync, crosses, sendable) depth 60 fits 20000

pub processor_config_send : IsSend processor_config_row
processor_config_send = search sendable depth 60 fits 20000

pub processor_config_sync : IsSync processor_config_row
processor_config_sync = search sendable depth 60 fits 20000

pub stamp_send : IsSend stamp_row
stamp_send = search (values, sendable) depth 60 fits 20000

pub stamp_sync : IsSync stamp_row
stamp_sync = search (values, sendable) depth 60 fits 20000

pub ruleset members = (
  count_send,
  count_sync,
  backoff_rate_send,
  backoff_rate_sync,
  delay_limit_send,
  delay_limit_sync,
  path_field_field_send,
  path_field_field_sync,
  path_or_call_field_send,
  path_or_call_field_sync,
  error_names_send,
  error_names_sync,
  retrier_send,
  retrier_sync,
  retriers_send,
  retriers_sync,
  processor_config_send,
  processor_config_sync,
  stamp_send,
  stamp_sync,
)
