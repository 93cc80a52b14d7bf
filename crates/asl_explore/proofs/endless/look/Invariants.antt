use Rattle.std.proofs.Common.{◌≡◌}
use Rattle.asl_exec.specs.Probes.{setup_of}
use Rattle.asl_explore.specs.private.Reaching.{AreReaching}
use Rattle.asl_explore.specs.Searches.{worlds_of}
use Rattle.asl_explore.proofs.endless.look.Given as goal

-- what is known is so
abbrev pub invariant-loop-turn : goal.invariant-loop-turn
invariant-loop-turn l = record {
  setup : setup_of l.probe ≡ setup_of l.fn.probe;
  kept : AreReaching l.orders (setup_of l.fn.probe) (worlds_of l.met.nodes.items) l.fn.reaching.known.items l.fn.reaching.links.items → AreReaching l.orders (setup_of l.fn.probe) (worlds_of l.met.nodes.items) l.reaching.known.items l.reaching.links.items;
}
