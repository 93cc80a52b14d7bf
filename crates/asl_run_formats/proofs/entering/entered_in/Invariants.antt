use Rattle.std.proofs.Common.{◌≡◌, [], drop, map}
use Rattle.std.specs.Prelude.{string_bytes}
use Rattle.asl_run_formats.specs.Entered.{entered}
use Rattle.asl_run_formats.proofs.entering.entered_in.Given as goal

-- the names so far and those of what is left are those of all
abbrev pub invariant-loop-event : goal.invariant-loop-event
invariant-loop-event l = entered (map string_bytes l.names.keys) (drop l.event-index l.events) ≡ entered [] l.events
