use Rattle.std.proofs.Common.{◌≡◌, drop}
use Rattle.asl_exec.specs.Probes.{setup_of, world_of}
use Rattle.asl_explore.specs.Endless.{AreTaken}
use Rattle.asl_explore.specs.Orders.{places_of, after_bare}
use Rattle.asl_explore.proofs.lasso.walk.Given as goal

-- if the steps that are left may be taken, all may; they lead to the same world
abbrev pub invariant-loop-at : goal.invariant-loop-at
invariant-loop-at l = record {
  same : setup_of l.probe ≡ setup_of l.fn.probe;
  left : after_bare (setup_of l.fn.probe) (world_of l.probe) (places_of (drop l.at-index l.steps)) ≡ after_bare (setup_of l.fn.probe) (world_of l.fn.probe) (places_of l.steps);
  taken : AreTaken l.orders (setup_of l.fn.probe) (world_of l.probe) (drop l.at-index l.steps) → AreTaken l.orders (setup_of l.fn.probe) (world_of l.fn.probe) l.steps;
}
