use Rattle.std.proofs.Common.{◌≡◌, true, take}
use Rattle.asl_exec.specs.Probes.{setup_of}
use Rattle.asl_explore.specs.Searches.{worlds_of}
use Rattle.asl_explore.specs.private.Seeing.{AreSeen}
use Rattle.asl_explore.proofs.sights.sights_in.Given as goal

-- the worlds so far were looked at, unless one was left out
abbrev pub invariant-loop-node : goal.invariant-loop-node
invariant-loop-node l = record {
  setup : setup_of l.probe ≡ setup_of l.fn.probe;
  seen : l.whole ≡ true → AreSeen l.orders (setup_of l.fn.probe) (worlds_of (take l.node-index l.nodes)) l.sights.items;
}
