use denote.Param.Send.{sendable}
use Rattle.asl_threads_base.proofs.Values as crossing
use Rattle.asl_time.proofs.moment.Moment.TheSendSync as moment
use Rattle.asl_history.proofs.place.Place.TheSendSync as place
use Rattle.asl_threads.proofs.Crossing.{run_sync, seat_send}
use Rattle.asl_threads_tests.proofs.closings.two_threads_step_one_run.Goals as goal

pub tell_both-requires-sync-T : goal.tell_both-requires-sync-T
tell_both-requires-sync-T g c κs = search (run_sync, sendable)

pub tell_both-requires-send-S : goal.tell_both-requires-send-S
tell_both-requires-send-S g c κs = search (seat_send, sendable)

pub tell_both-requires-send-C : goal.tell_both-requires-send-C
tell_both-requires-send-C g c κs = search (moment.the_send, crossing.name_send, place.the_send, sendable) depth 60 fits 20000
