use Rattle.std.proofs.Common.{◌-◌, ◌≤◌, take}
use Rattle.asl_json_spans.specs.Position.{IsPosition}
use Rattle.asl_json_spans.proofs.position.Position.forward.Given as goal

abbrev pub invariant-loop-here : goal.invariant-loop-here
invariant-loop-here l = record {
  position : IsPosition (take l.here.at l.text) l.here.lines l.here.characters;
  within : l.fn.self.at ≤ l.end → l.here.at ≤ l.end;
}

abbrev pub decreases-loop-here : goal.decreases-loop-here
decreases-loop-here l = l.end - l.here.at
