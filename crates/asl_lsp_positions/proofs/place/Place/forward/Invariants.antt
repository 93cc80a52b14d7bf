use Rattle.std.proofs.Common.{◌-◌, ◌≤◌}
use Rattle.asl_lsp_positions.specs.private.Places.{IsPlace}
use Rattle.asl_lsp_positions.proofs.place.Place.forward.Given as goal

-- not past the end
abbrev pub invariant-loop-here : goal.invariant-loop-here
invariant-loop-here l = IsPlace l.encoding l.text l.here × (l.here.at ≤ l.end)

abbrev pub decreases-loop-here : goal.decreases-loop-here
decreases-loop-here l = l.end - l.here.at
