use denote.Param.Send.{sendable}
use Rattle.std.proofs.Crossing.{crosses}
use Rattle.asl_threads.proofs.Crossing.{run_sync}
use Rattle.asl_threads_tests.proofs.drivers.no_lock_is_held_at_the_gate.Goals as goal

pub drive-seats-requires-sync-G : goal.drive-seats-requires-sync-G
drive-seats-requires-sync-G g c κs = search (run_sync, crosses, sendable) depth 60 fits 20000

pub drive-seats-requires-sync-C : goal.drive-seats-requires-sync-C
drive-seats-requires-sync-C g c κs = search (run_sync, crosses, sendable) depth 60 fits 20000
