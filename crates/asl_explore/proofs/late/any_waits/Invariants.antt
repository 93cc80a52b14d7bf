use Rattle.asl_explore.proofs.Resting.{NoneWithin}
use Rattle.asl_explore.proofs.late.any_waits.Given as goal

-- in none of those so far a branch waits
abbrev pub invariant-loop-index : goal.invariant-loop-index
invariant-loop-index l = NoneWithin l.nodes l.index
