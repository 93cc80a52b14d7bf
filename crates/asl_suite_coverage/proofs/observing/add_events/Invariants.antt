use Rattle.std.proofs.Common.{◌≡◌, ◌++◌, drop}
use Rattle.std.specs.Prelude.{option_map}
use Rattle.asl_json.specs.View.{data_of}
use Rattle.asl_suite_coverage.specs.Covered.{events_spots}
use Rattle.asl_suite_coverage.proofs.observing.add_events.Given as goal

-- what was added and what is left is that of all
abbrev pub invariant-loop-event : goal.invariant-loop-event
invariant-loop-event l =
    l.seen.items ++ events_spots (data_of l.mocks) (option_map (λ v. data_of v.now) l.case) l.count (drop l.event-index l.events)
    ≡ l.fn.seen.items ++ events_spots (data_of l.mocks) (option_map (λ v. data_of v.now) l.case) l.count l.events
