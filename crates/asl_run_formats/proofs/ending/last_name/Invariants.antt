use Rattle.std.proofs.Common.{◌≡◌, [], drop}
use Rattle.asl_run_formats.specs.Ended.{last_name}
use Rattle.asl_run_formats.proofs.ending.last_name.Given as goal

abbrev pub invariant-loop-event : goal.invariant-loop-event
invariant-loop-event l = last_name l.name (drop l.event-index l.events) ≡ last_name [] l.events
