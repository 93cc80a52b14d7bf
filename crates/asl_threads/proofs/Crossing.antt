-- What may cross threads: a type at a time, since a search through all of them at once gives up.
use denote.Param.Send.{IsSend, IsSync, sendable}
use Rattle.std.proofs.Crossing.{crosses}
use Rattle.asl_json.proofs.value.Items.TheLaws.TheKnot as values
use Rattle.asl_threads_base.proofs.Values as crossing
use Rattle.asl_threads_base.proofs.Cases as cases
use Rattle.asl_threads_base.proofs.Machines as machines
use Rattle.asl_time.proofs.moment.Moment.TheSendSync as moment
use Rattle.asl_history.proofs.place.Place.TheSendSync as place
use Rattle.asl_step.proofs.record.ErrorOut.TheSendSync as error
use Rattle.asl_step.proofs.record.Uses.TheSendSync as uses
use Rattle.asl_run_branches.proofs.frame.Frame.TheLaws.TheKnot as frames
use Rattle.asl_run_state.proofs.refusal.Refusal.TheSendSync as refusal
use Rattle.asl_history.specs.contracts.event.Event.{the_row as event_row}
use Rattle.asl_history.specs.contracts.history.History.{the_row as history_row}
use Rattle.asl_step.specs.contracts.record.Record.{the_row as record_row, the_field as record_field}
use Rattle.asl_step.specs.contracts.context.Context.{the_row as context_row}
use Rattle.asl_run_branches.specs.contracts.frame.Frame.{the_row as frame_row}
use Rattle.asl_run_state.specs.contracts.outcome.Outcome.{the_field as outcome_field}
use Rattle.asl_run_state.specs.contracts.world.World.{the_row as world_row}
use Rattle.asl_run_state.specs.contracts.checkpoint.Checkpoint.{the_row as checkpoint_row}
use Rattle.asl_run_input.specs.contracts.setup.Setup.{the_field as setup_field}
use Rattle.asl_run_input.specs.contracts.step_at.StepAt.{the_row as step_row}
use Rattle.asl_exec.specs.contracts.execution.Execution.{the_field as execution_field}
use Rattle.asl_session.specs.contracts.reply.Reply.{the_field as reply_field}
use Rattle.asl_session.specs.contracts.command.Command.{the_field as command_field}
use Rattle.asl_session.specs.contracts.session.Session.{the_row as session_row}
use Rattle.asl_threads.specs.contracts.seat.Entry.{the_row as entry_row}
use Rattle.asl_threads.specs.contracts.seat.Seat.{the_row as seat_row}
use Rattle.asl_threads.specs.contracts.row.Row.{the_row as row_row}
use Rattle.asl_threads.specs.contracts.shared.Shared.{the_row as shared_row}
use Rattle.core.specs.contracts.sync.Mutex.{the_row as lock_row}
use Rattle.asl_threads.specs.contracts.run.Run.{the_row as run_row, the_field as run_field}
use Rattle.asl_threads.specs.contracts.closing.RunRecord.{the_row as closed_row}
use Rattle.asl_threads.specs.contracts.closing.CloseFault.{the_row as fault_row}

-- ---- records and events

record_send : IsSend record_row
record_send = search (crossing.shared_send, crossing.shared_items_send, crossing.name_send, error.the_field_send, uses.the_send, moment.the_send, sendable) depth 60 fits 20000

record_sync : IsSync record_row
record_sync = search (crossing.shared_sync, crossing.shared_items_sync, crossing.name_sync, error.the_field_sync, uses.the_sync, moment.the_sync, sendable) depth 60 fits 20000

record_field_send : IsSend record_field.row
record_field_send = search (crossing.shared_send, crossing.shared_items_send, crossing.name_send, error.the_field_send, uses.the_send, moment.the_send, sendable) depth 60 fits 20000

event_send : IsSend event_row
event_send = search (crossing.shared_send, crossing.name_send, place.the_send, crosses, sendable) depth 60 fits 20000

history_send : IsSend history_row
history_send = search (event_send, crosses, sendable) depth 60 fits 20000

-- ---- what an execution begins with

setup_field_send : IsSend setup_field.row
setup_field_send = search (machines.machine_send, cases.case_send, crossing.shared_send, crossing.txt_send, moment.the_send, sendable) depth 60 fits 20000

setup_field_sync : IsSync setup_field.row
setup_field_sync = search (machines.machine_sync, cases.case_sync, crossing.shared_sync, crossing.txt_sync, moment.the_sync, sendable) depth 60 fits 20000

-- ---- executions and sessions

-- trees share their frames, so a frame moves to another thread where it may be lent to it too
frame_send : IsSend frame_row
frame_send = search (record_send, record_sync, place.the_send, place.the_sync, moment.the_send, moment.the_sync, frames.crosses, crosses, sendable) depth 60 fits 20000

outcome_send : IsSend outcome_field.row
outcome_send = search (crossing.shared_send, error.the_field_send, sendable) depth 60 fits 20000

world_send : IsSend world_row
world_send = search (frame_send, history_send, outcome_send, moment.the_send, crosses, sendable) depth 60 fits 20000

checkpoint_send : IsSend checkpoint_row
checkpoint_send = search (frame_send, outcome_send, moment.the_send, crosses, sendable) depth 60 fits 20000

context_send : IsSend context_row
context_send = search (crossing.shared_send, crosses, values.crosses, sendable) depth 60 fits 20000

execution_send : IsSend execution_field.row
execution_send = search (setup_field_send, world_send, context_send, crosses, sendable) depth 60 fits 20000

step_send : IsSend step_row
step_send = search (place.the_send, moment.the_send, sendable) depth 60 fits 20000

session_send : IsSend session_row
session_send = search (execution_send, step_send, checkpoint_send, crossing.name_send, place.the_send, crosses, sendable) depth 60 fits 20000

-- ---- commands and replies

reply_send : IsSend reply_field.row
reply_send = search (record_field_send, refusal.the_send, refusal.the_field_send, crossing.name_send, sendable) depth 60 fits 20000

pub command_send : IsSend command_field.row
command_send = search (moment.the_send, crossing.name_send, place.the_send, sendable) depth 60 fits 20000

entry_send : IsSend entry_row
entry_send = search (command_send, reply_send, sendable) depth 60 fits 20000

row_send : IsSend row_row
row_send = search (command_send, reply_send, sendable) depth 60 fits 20000

-- ---- runs and seats

pub seat_send : IsSend seat_row
seat_send = search (entry_send, crosses, sendable) depth 60 fits 20000

pub shared_send : IsSend shared_row
shared_send = search (session_send, row_send, crosses, sendable) depth 60 fits 20000

pub run_send : IsSend (run_row (lock_row shared_row))
run_send = search (shared_send, setup_field_send, crosses, sendable) depth 60 fits 20000

run_field_send : IsSend (run_field (lock_row shared_row)).row
run_field_send = search (shared_send, setup_field_send, crosses, sendable) depth 60 fits 20000

pub run_sync : IsSync (run_row (lock_row shared_row))
run_sync = search (shared_send, setup_field_sync, crosses, sendable) depth 60 fits 20000

pub closed_send : IsSend closed_row
closed_send = search (row_send, session_send, crosses, sendable) depth 60 fits 20000

pub fault_send : IsSend (fault_row (lock_row shared_row))
fault_send = search (run_field_send, seat_send, crosses, sendable) depth 60 fits 20000
