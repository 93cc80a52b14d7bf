use Rattle.std.specs.List.{AllWithin}
use Rattle.asl_explore.proofs.Resting.{IsBy}
use Rattle.asl_explore.proofs.late.waits.Given as goal

-- none of the steps so far is later
abbrev pub invariant-loop-index : goal.invariant-loop-index
invariant-loop-index l = AllWithin (IsBy l.last) l.turns.items 0 l.index
