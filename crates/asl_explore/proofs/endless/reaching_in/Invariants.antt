use Rattle.std.proofs.Common.{◌≡◌}
use Rattle.asl_exec.specs.Probes.{setup_of}
use Rattle.asl_explore.specs.private.Reaching.{AreReaching}
use Rattle.asl_explore.specs.Searches.{worlds_of}
use Rattle.asl_explore.proofs.endless.reaching_in.Given as goal

-- what is known is so
abbrev pub invariant-loop-index : goal.invariant-loop-index
invariant-loop-index l = record {
  setup : setup_of l.probe ≡ setup_of l.fn.probe;
  reaching : AreReaching l.orders (setup_of l.fn.probe) (worlds_of l.met.nodes.items) l.reaching.known.items l.reaching.links.items;
}
