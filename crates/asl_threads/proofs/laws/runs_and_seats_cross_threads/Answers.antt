use Rattle.asl_threads.proofs.Crossing.{run_sync, run_send, seat_send, closed_send, fault_send}
use Rattle.asl_threads.proofs.laws.runs_and_seats_cross_threads.Goals as goal

pub returns-clause-lent : goal.returns-clause-lent
returns-clause-lent c = run_sync

pub returns-clause-run : goal.returns-clause-run
returns-clause-run c = run_send

pub returns-clause-seat : goal.returns-clause-seat
returns-clause-seat c = seat_send

pub returns-clause-record : goal.returns-clause-record
returns-clause-record c = closed_send

pub returns-clause-fault : goal.returns-clause-fault
returns-clause-fault c = fault_send
