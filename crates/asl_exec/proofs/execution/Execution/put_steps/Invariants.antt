use Rattle.std.proofs.Common.{◌≡◌, ◌++◌, drop}
use Rattle.std.specs.Prelude.{string_bytes}
use Rattle.asl_exec.specs.RunText.{step_lines}
use Rattle.asl_exec.specs.Steps.{world_after}
use Rattle.asl_exec.specs.Views.{setup_of, world_of}
use Rattle.asl_exec.proofs.execution.Execution.put_steps.Given as goal

-- the lines so far and those of what is left are those of all
abbrev pub invariant-loop-at : goal.invariant-loop-at
invariant-loop-at l = record {
  told : string_bytes l.out ++ step_lines (setup_of l.self) (world_of l.self) (drop l.at-index l.steps) ≡ string_bytes l.fn.out ++ step_lines (setup_of l.fn.self) (world_of l.fn.self) l.steps;
  left : world_after (setup_of l.self) (world_of l.self) (drop l.at-index l.steps) ≡ world_after (setup_of l.fn.self) (world_of l.fn.self) l.steps;
  same : setup_of l.self ≡ setup_of l.fn.self;
}
