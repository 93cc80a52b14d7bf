use Rattle.std.proofs.Common.{◌-◌, length}
use Rattle.std.specs.List.{All}
use Rattle.asl_lsp_positions.specs.private.Places.{IsPlace}
use Rattle.asl_lsp_positions.proofs.positions.marks_of.Given as goal

-- the places so far
abbrev pub invariant-loop-here : goal.invariant-loop-here
invariant-loop-here l = IsPlace l.encoding l.text l.here × All (IsPlace l.encoding l.text) l.marks.items

abbrev pub decreases-loop-here : goal.decreases-loop-here
decreases-loop-here l = length l.text - l.here.at
