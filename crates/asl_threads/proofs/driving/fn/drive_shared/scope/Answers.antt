use denote.Param.Send.{sendable}
use Rattle.asl_threads.proofs.Crossing.{run_sync, seat_send}
use Rattle.asl_threads.proofs.driving.fn.drive_shared.scope.Goals as goal

pub drive_from-requires-send-S : goal.drive_from-requires-send-S
drive_from-requires-send-S g c κs within = search (seat_send, sendable)

pub drive_from-requires-sync-X : goal.drive_from-requires-sync-X
drive_from-requires-sync-X g c κs within = search (run_sync, sendable)
