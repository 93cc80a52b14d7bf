use Rattle.std.proofs.Common.{◌≡◌, drop}
use Rattle.asl_exec.specs.Views.{setup_of, world_of}
use Rattle.asl_run_formats.specs.Edges.{with_steps}
use Rattle.asl_run_formats.proofs.passing.pass_all.Given as goal

-- what is taken so far, and what is left takes, is what all take
abbrev pub invariant-loop-at : goal.invariant-loop-at
invariant-loop-at l = record {
  edges : with_steps l.edges.items l.context.facts (setup_of l.execution) (world_of l.execution) (drop l.at-index l.steps) ≡ with_steps l.fn.edges.items l.fn.context.facts (setup_of l.fn.execution) (world_of l.fn.execution) l.steps;
}
