use Rattle.std.proofs.Common.{◌≡◌, ◌≤◌, ◌-◌, true, false, length}
use Rattle.std.specs.List.{All, AllWithin}
use Rattle.asl_exec.specs.Steps.{opening}
use Rattle.asl_exec.specs.Probes.{setup_of}
use Rattle.asl_explore.specs.Searches.{IsReached, IsMet, IsExpanded, AreTakenOn, Shows, AreDistinct, worlds_of, outcomes_of}
use Rattle.asl_explore.specs.declared.orders.Orders.TheVariants.{Every}
use Rattle.asl_explore.proofs.Levels.{IsDeep}
use Rattle.asl_explore.proofs.search.search.Given as goal

-- of the first worlds enough steps were taken, unless one was left out
abbrev pub invariant-loop-number : goal.invariant-loop-number
invariant-loop-number g l = record {
  setup : setup_of l.probe ≡ setup_of l.fn.probe;
  shown : All (Shows l.orders (setup_of l.fn.probe)) l.found.list.items;
  once : AreDistinct (outcomes_of l.found.list.items);
  begins : IsMet (worlds_of l.met.nodes.items) (outcomes_of l.found.list.items) (opening (setup_of l.fn.probe));
  reached : All (IsReached l.orders (setup_of l.fn.probe)) (worlds_of l.met.nodes.items);
  within : l.number ≤ length (worlds_of l.met.nodes.items);
  taken : l.whole ≡ true → AreTakenOn l.orders (setup_of l.fn.probe) (worlds_of l.met.nodes.items) (outcomes_of l.found.list.items) l.number;
  depth : l.level.depth ≤ l.number;
  end : l.level.end ≤ length (worlds_of l.met.nodes.items);
  deep : l.orders ≡ Every → l.whole ≡ true → IsDeep l.orders (setup_of l.fn.probe) (worlds_of l.met.nodes.items) (outcomes_of l.found.list.items) l.level;
  expanded : l.alone ≡ false → l.whole ≡ true → AllWithin (IsExpanded l.orders (setup_of l.fn.probe) (worlds_of l.met.nodes.items) (outcomes_of l.found.list.items)) (worlds_of l.met.nodes.items) 0 l.number;
}

abbrev pub decreases-loop-number : goal.decreases-loop-number
decreases-loop-number g l = l.limit - l.number
