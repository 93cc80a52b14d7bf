use Rattle.std.proofs.Common.{◌≡◌, drop}
use Rattle.asl_exec.specs.Steps.{world_after}
use Rattle.asl_exec.specs.Views.{setup_of, world_of}
use Rattle.asl_exec.proofs.execution.Execution.take_all.Given as goal

-- what is left leads to where all steps lead
abbrev pub invariant-loop-at : goal.invariant-loop-at
invariant-loop-at l = record {
  left : world_after (setup_of l.self) (world_of l.self) (drop l.at-index l.steps) ≡ world_after (setup_of l.fn.self) (world_of l.fn.self) l.steps;
  same : setup_of l.self ≡ setup_of l.fn.self;
}
