use Rattle.std.proofs.Common.{◌≡◌, ◌++◌, drop}
use Rattle.asl_exec.specs.Steps.{world_after}
use Rattle.asl_exec.specs.Views.{setup_of, world_of}
use Rattle.asl_trace.specs.Steps.{lines_of_steps}
use Rattle.asl_trace.specs.Views.{text_of, shows_of, facts_in}
use Rattle.asl_trace.proofs.tree.Tree.steps.Given as goal

-- what is left leads to where all steps lead, and the lines so far and its lines are those of all
abbrev pub invariant-loop-at : goal.invariant-loop-at
invariant-loop-at l = record {
  left : world_after (setup_of l.execution) (world_of l.execution) (drop l.at-index l.steps) ≡ world_after (setup_of l.fn.execution) (world_of l.fn.execution) l.steps;
  text : text_of l.self ++ lines_of_steps (shows_of l.fn.self) (facts_in l.fn.self) (setup_of l.execution) (world_of l.execution) (drop l.at-index l.steps) ≡ text_of l.fn.self ++ lines_of_steps (shows_of l.fn.self) (facts_in l.fn.self) (setup_of l.fn.execution) (world_of l.fn.execution) l.steps;
  same : setup_of l.execution ≡ setup_of l.fn.execution;
  shows : shows_of l.self ≡ shows_of l.fn.self;
  facts : facts_in l.self ≡ facts_in l.fn.self;
}
