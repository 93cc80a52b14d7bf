use Rattle.std.proofs.Common.{IfSome}
use Rattle.std.specs.List.{AllWithin}
use Rattle.asl_exec.specs.Probes.{setup_of, world_of}
use Rattle.asl_explore.specs.Searches.{IsOpenAt}
use Rattle.asl_explore.proofs.Reaching.{IsReckoned}
use Rattle.asl_explore.proofs.order.soonest.Given as goal

-- a branch may step at the least moment so far, and none of those so far sooner
abbrev pub invariant-loop-turn : goal.invariant-loop-turn
invariant-loop-turn l = record {
  may : IfSome l.least (IsOpenAt (setup_of l.probe) (world_of l.probe));
  reckoned : AllWithin (IsReckoned (setup_of l.probe) (world_of l.probe) l.least) l.turns 0 l.turn-index;
}
