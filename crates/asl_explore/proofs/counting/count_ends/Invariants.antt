use Rattle.std.proofs.Common.{◌≡◌, true}
use Rattle.std.specs.List.{AllWithin}
use Rattle.asl_run_state.specs.Bare.{bare}
use Rattle.asl_exec.specs.Probes.{setup_of}
use Rattle.asl_explore.specs.Searches.{IsReached, outcomes_of}
use Rattle.asl_explore.specs.Calls.{AreKept, AreMetSoFar, IsCounted}
use Rattle.asl_explore.proofs.Ends.{IsTurnIn}
use Rattle.asl_explore.proofs.counting.count_ends.Given as goal

-- the worlds that the steps so far end in are counted, unless one was left out
abbrev pub invariant-loop-turn : goal.invariant-loop-turn
invariant-loop-turn l = record {
  setup : setup_of l.probe ≡ setup_of l.fn.probe;
  keeps : AreKept l.fn.calls.items l.calls.items;
  met : IsReached l.fn.orders (setup_of l.fn.probe) (bare l.world) → AreMetSoFar l.fn.orders (setup_of l.fn.probe) (outcomes_of l.found) l.fn.calls.items → AreMetSoFar l.fn.orders (setup_of l.fn.probe) (outcomes_of l.found) l.calls.items;
  counted : l.whole ≡ true → AllWithin (IsTurnIn (IsCounted l.states (outcomes_of l.found) l.calls.items) (setup_of l.fn.probe) (bare l.world) l.bound) l.turn-items 0 l.turn-index;
}
