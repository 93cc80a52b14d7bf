use Rattle.asl_explore.specs.private.Reaching.{AllBefore}
use Rattle.asl_explore.proofs.endless.first_lost.Given as goal

-- it is known of those so far
abbrev pub invariant-loop-number : goal.invariant-loop-number
invariant-loop-number l = AllBefore l.reaching.known.items l.number
