use Rattle.std.proofs.Common.{◌≡◌, true}
use Rattle.std.specs.List.{All, AllWithin}
use Rattle.asl_exec.specs.Probes.{setup_of}
use Rattle.asl_explore.specs.Searches.{IsReached, outcomes_of, worlds_of}
use Rattle.asl_explore.specs.Calls.{AreEndsCounted, AreMetSoFar}
use Rattle.asl_explore.proofs.counting.count_calls.Given as goal

-- what the worlds so far end in is counted, unless one was left out
abbrev pub invariant-loop-node : goal.invariant-loop-node
invariant-loop-node l = record {
  setup : setup_of l.probe ≡ setup_of l.fn.probe;
  met : All (IsReached l.orders (setup_of l.fn.probe)) (worlds_of l.nodes) → AreMetSoFar l.orders (setup_of l.fn.probe) (outcomes_of l.found) l.calls.items;
  counted : l.whole ≡ true → AllWithin (AreEndsCounted l.orders (setup_of l.fn.probe) l.states (outcomes_of l.found) l.calls.items) (worlds_of l.nodes) 0 l.node-index;
}
