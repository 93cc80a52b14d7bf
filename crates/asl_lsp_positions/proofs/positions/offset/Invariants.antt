use Rattle.std.proofs.Common.{◌≡◌, ◌-◌, length}
use Rattle.asl_lsp_positions.specs.Positions.{last_up_to}
use Rattle.asl_lsp_positions.specs.private.Places.{IsPlace}
use Rattle.asl_lsp_positions.proofs.positions.offset.Given as goal

-- the last of the offsets so far
abbrev pub invariant-loop-here : goal.invariant-loop-here
invariant-loop-here l = IsPlace l.encoding l.text l.here × (l.last ≡ last_up_to l.encoding l.text l.position l.here.at)

abbrev pub decreases-loop-here : goal.decreases-loop-here
decreases-loop-here l = length l.text - l.here.at
