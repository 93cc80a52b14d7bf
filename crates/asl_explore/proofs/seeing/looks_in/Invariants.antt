use Rattle.std.proofs.Common.{◌≡◌, length}
use Rattle.asl_run_state.specs.Bare.{earliest}
use Rattle.asl_exec.specs.Probes.{setup_of, world_of}
use Rattle.asl_explore.specs.declared.orders.Orders.{Orders}
use Rattle.asl_explore.specs.private.Seeing.{IsBoundOf}
use Rattle.asl_explore.proofs.Sighting.{AreLooksTo}
use Rattle.asl_explore.proofs.seeing.looks_in.Given as goal

-- those so far are what the branches of their numbers do next
abbrev pub invariant-loop-turn : goal.invariant-loop-turn
invariant-loop-turn l = record {
  many : length l.looks.items ≡ l.turn-index;
  each : (o : Orders) → l.turns ≡ earliest (world_of l.probe).last (world_of l.probe).branches → IsBoundOf o (setup_of l.probe) (world_of l.probe) l.bound → AreLooksTo o (setup_of l.probe) (world_of l.probe) l.looks.items;
}
