use Rattle.asl_explore.specs.Settled.{AreSettledFrom}
use Rattle.asl_explore.proofs.settling.Settling.of.Given as goal

-- what is known so far is so
abbrev pub invariant-loop-state : goal.invariant-loop-state
invariant-loop-state l = AreSettledFrom l.setup l.from.items
