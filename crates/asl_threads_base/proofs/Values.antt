-- What may cross threads: JSON values, texts, numbers and what shares them.
use denote.Param.Send.{IsSend, IsSync, sendable}
use Rattle.std.proofs.Crossing.{crosses}
use Rattle.asl_json.proofs.value.Items.TheLaws.TheKnot as knot
use Rattle.asl_json.specs.contracts.value.Txt.{the_row as txt_row}
use Rattle.asl_json.specs.contracts.value.Dec.{the_row as dec_row}
use Rattle.asl_json.specs.contracts.value.Json.{the_row as json_row, the_field as json_field}
use Rattle.asl_json_shared.specs.contracts.shared.Shared.{the_row as shared_row}
use Rattle.asl_json_shared.specs.contracts.shared.SharedItems.{the_row as shared_items_row}
use Rattle.asl_json_shared.specs.contracts.shared.Name.{the_row as name_row}

pub txt_send : IsSend txt_row
txt_send = search (crosses, sendable) depth 60 fits 20000

pub txt_sync : IsSync txt_row
txt_sync = search (crosses, sendable) depth 60 fits 20000

pub dec_send : IsSend dec_row
dec_send = search (crosses, sendable) depth 60 fits 20000

pub dec_sync : IsSync dec_row
dec_sync = search (crosses, sendable) depth 60 fits 20000

pub json_send : IsSend json_row
json_send = search (crosses, knot.crosses, sendable) depth 60 fits 20000

pub json_sync : IsSync json_row
json_sync = search (crosses, knot.crosses, sendable) depth 60 fits 20000

pub json_field_send : IsSend json_field.row
json_field_send = search (crosses, knot.crosses, sendable) depth 60 fits 20000

pub json_field_sync : IsSync json_field.row
json_field_sync = search (crosses, knot.crosses, sendable) depth 60 fits 20000

pub shared_send : IsSend shared_row
shared_send = search (crosses, knot.crosses, sendable) depth 60 fits 20000

pub shared_sync : IsSync shared_row
shared_sync = search (crosses, knot.crosses, sendable) depth 60 fits 20000

pub shared_items_send : IsSend shared_items_row
shared_items_send = search (crosses, knot.crosses, sendable) depth 60 fits 20000

pub shared_items_sync : IsSync shared_items_row
shared_items_sync = search (crosses, knot.crosses, sendable) depth 60 fits 20000

pub name_send : IsSend name_row
name_send = search (crosses, sendable) depth 60 fits 20000

pub name_sync : IsSync name_row
name_sync = search (crosses, sendable) depth 60 fits 20000

pub ruleset values = (
  txt_send,
  txt_sync,
  dec_send,
  dec_sync,
  json_send,
  json_sync,
  json_field_send,
  json_field_sync,
  shared_send,
  shared_sync,
  shared_items_send,
  shared_items_sync,
  name_send,
  name_sync,
)
