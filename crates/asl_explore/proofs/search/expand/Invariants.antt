use Rattle.std.proofs.Common.{◌≡◌, true}
use Rattle.std.specs.List.{All}
use Rattle.asl_exec.specs.Probes.{setup_of}
use Rattle.asl_explore.specs.Searches.{IsLater, IsReached, Shows, AreDistinct, worlds_of, outcomes_of}
use Rattle.asl_explore.proofs.Expanding.{AreMet}
use Rattle.asl_explore.proofs.search.expand.Given as goal

-- the worlds that the steps so far lead to are met, unless one was left out
abbrev pub invariant-loop-index : goal.invariant-loop-index
invariant-loop-index l = record {
  later : IsLater (worlds_of l.fn.met.nodes.items) (outcomes_of l.fn.found.list.items) (worlds_of l.met.nodes.items) (outcomes_of l.found.list.items);
  setup : setup_of l.probe ≡ setup_of l.fn.probe;
  shown : All (Shows l.orders (setup_of l.fn.probe)) l.fn.found.list.items → All (Shows l.orders (setup_of l.fn.probe)) l.found.list.items;
  once : AreDistinct (outcomes_of l.fn.found.list.items) → AreDistinct (outcomes_of l.found.list.items);
  reached : All (IsReached l.orders (setup_of l.fn.probe)) (worlds_of l.fn.met.nodes.items) → All (IsReached l.orders (setup_of l.fn.probe)) (worlds_of l.met.nodes.items);
  met : l.whole ≡ true → AreMet (setup_of l.fn.probe) (worlds_of l.fn.met.nodes.items) l.number (worlds_of l.met.nodes.items) (outcomes_of l.found.list.items) l.bound l.turns.items l.index;
}
