use Rattle.std.proofs.Common.{◌≡◌, List}
use Rattle.std.specs.List.{All}
use Rattle.asl_run_state.specs.World.{World}
use Rattle.asl_exec.specs.Probes.{setup_of}
use Rattle.asl_explore.specs.Searches.{outcomes_of, AreDistinct, IsLater, Shows}
use Rattle.asl_explore.proofs.sampling.put_samples.Given as goal

-- what was found stays, and what is found besides is shown and new
abbrev pub invariant-loop-number : goal.invariant-loop-number
invariant-loop-number l = record {
  setup : setup_of l.probe ≡ setup_of l.fn.probe;
  later : (ws : List World) → IsLater ws (outcomes_of l.fn.found.list.items) ws (outcomes_of l.found.list.items);
  shown : All (Shows l.orders (setup_of l.fn.probe)) l.fn.found.list.items → All (Shows l.orders (setup_of l.fn.probe)) l.found.list.items;
  once : AreDistinct (outcomes_of l.fn.found.list.items) → AreDistinct (outcomes_of l.found.list.items);
}
