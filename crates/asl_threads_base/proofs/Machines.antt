-- What may cross threads: definitions.
use denote.Param.Send.{IsSend, IsSync, sendable}
use Rattle.std.proofs.Crossing.{crosses}
use Rattle.asl_threads_base.proofs.States.{state_send, state_sync}
use Rattle.asl_threads_base.proofs.Parts.{common}
use Rattle.asl_def.specs.contracts.table.Table.{the_row as table_row}
use Rattle.asl_def.specs.contracts.machine.Parts.{the_row as parts_row}
use Rattle.asl_def.specs.contracts.machine.Machine.{the_row as machine_row}

pub table_send : IsSend table_row
table_send = search (state_send, crosses, sendable) depth 60 fits 20000

pub table_sync : IsSync table_row
table_sync = search (state_sync, crosses, sendable) depth 60 fits 20000

pub parts_send : IsSend parts_row
parts_send = search (common, table_send, sendable) depth 60 fits 20000

pub parts_sync : IsSync parts_row
parts_sync = search (common, table_sync, sendable) depth 60 fits 20000

pub machine_send : IsSend machine_row
machine_send = search (parts_send, parts_sync, crosses, sendable) depth 60 fits 20000

pub machine_sync : IsSync machine_row
machine_sync = search (parts_send, parts_sync, crosses, sendable) depth 60 fits 20000
