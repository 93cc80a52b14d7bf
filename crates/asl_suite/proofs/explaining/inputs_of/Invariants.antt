use Rattle.std.proofs.Common.{◌≡◌, ◌++◌, drop}
use Rattle.asl_json.specs.View.{items_of}
use Rattle.asl_suite.specs.Cases.{inputs_of}
use Rattle.asl_suite.proofs.explaining.inputs_of.Given as goal

-- those so far and those of what is left are those of all
abbrev pub invariant-loop-event : goal.invariant-loop-event
invariant-loop-event l = items_of l.inputs.items ++ inputs_of l.name (drop l.event-index l.events) ≡ inputs_of l.name l.events
