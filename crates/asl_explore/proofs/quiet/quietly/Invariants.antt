use Rattle.std.proofs.Common.{◌≡◌, List}
use Rattle.asl_run_state.specs.declared.outcome.Outcome.{Outcome}
use Rattle.asl_exec.specs.Probes.{setup_of}
use Rattle.std.specs.List.{All}
use Rattle.asl_explore.specs.declared.orders.Orders.TheVariants.{Prompt}
use Rattle.asl_explore.specs.Searches.{IsLater, IsReached, worlds_of}
use Rattle.asl_explore.proofs.quiet.quietly.Given as goal

-- what was met stays met
abbrev pub invariant-loop-index : goal.invariant-loop-index
invariant-loop-index l = record {
  later : (os : List Outcome) → IsLater (worlds_of l.fn.met.nodes.items) os (worlds_of l.met.nodes.items) os;
  setup : setup_of l.probe ≡ setup_of l.fn.probe;
  reached : All (IsReached Prompt (setup_of l.fn.probe)) (worlds_of l.fn.met.nodes.items) → All (IsReached Prompt (setup_of l.fn.probe)) (worlds_of l.met.nodes.items);
}
