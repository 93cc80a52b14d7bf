use Rattle.std.proofs.Common.{ℕ, ◌≡◌, ◌<◌, get_or, length, map, take}
use Rattle.asl_run_state.specs.Bare.{bare, earliest}
use Rattle.asl_exec.specs.Probes.{setup_of}
use Rattle.asl_explore.specs.declared.orders.Orders.{Orders}
use Rattle.asl_explore.specs.declared.sights.Sight.{Sight}
use Rattle.asl_explore.specs.Remarks.{asked_by, greatest}
use Rattle.asl_explore.specs.private.Seeing.{AreLooks, with_most}
use Rattle.asl_explore.proofs.sights.ask_all.Given as goal

-- the most so far
abbrev pub invariant-loop-index : goal.invariant-loop-index
invariant-loop-index l = record {
  setup : setup_of l.probe ≡ setup_of l.fn.probe;
  many : length l.sights.items ≡ length l.fn.sights.items;
  each : (o : Orders) → l.turns ≡ earliest l.world.last l.world.branches → AreLooks o (setup_of l.fn.probe) (bare l.world) l.looks → (n : ℕ) (d : Sight) → n < length l.fn.sights.items → get_or l.sights.items n d ≡ with_most (greatest (map (asked_by o (setup_of l.fn.probe) n (bare l.world)) (take l.index l.world.branches))) (get_or l.fn.sights.items n d);
}
