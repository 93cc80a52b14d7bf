use Rattle.std.proofs.Common.{◌≡◌, drop}
use Rattle.asl_exec.specs.Steps.{opening, world_after}
use Rattle.asl_exec.specs.Probes.{setup_of, world_of}
use Rattle.asl_explore.specs.Orders.{timed, places_of, AreTried}
use Rattle.asl_explore.proofs.order.replay.Given as goal

-- the steps that are left lead to the same world; if they are timed, all are
abbrev pub invariant-loop-at : goal.invariant-loop-at
invariant-loop-at l = record {
  left : world_after (setup_of l.probe) (world_of l.probe) (drop l.at-index l.steps) ≡ world_after (setup_of l.fn.probe) (opening (setup_of l.fn.probe)) l.steps;
  same : setup_of l.probe ≡ setup_of l.fn.probe;
  timed : drop l.at-index l.steps ≡ timed (setup_of l.fn.probe) (world_of l.probe) (places_of (drop l.at-index l.steps)) → l.steps ≡ timed (setup_of l.fn.probe) (opening (setup_of l.fn.probe)) (places_of l.steps);
  tried : AreTried l.orders (setup_of l.fn.probe) (world_of l.probe) (places_of (drop l.at-index l.steps)) → AreTried l.orders (setup_of l.fn.probe) (opening (setup_of l.fn.probe)) (places_of l.steps);
}
