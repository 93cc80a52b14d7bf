use Rattle.std.proofs.Common.{◌≡◌, ◌++◌, ◌-◌}
use Rattle.asl_exec.specs.Driving.{driven}
use Rattle.asl_exec.specs.Views.{setup_of, world_of}
use Rattle.asl_trace.specs.Steps.{tree_lines}
use Rattle.asl_trace.specs.Views.{text_of, shows_of, facts_in}
use Rattle.asl_run_formats.specs.Taken.{taken}
use Rattle.asl_run_formats.proofs.treeing.tell_driven.Given as goal

-- the steps that are left lead to where all lead, and the lines so far and theirs are those of all
abbrev pub invariant-loop : goal.invariant-loop
invariant-loop l = record {
  world : driven (l.limit - l.counter) (setup_of l.execution) (world_of l.execution) ≡ driven l.limit (setup_of l.fn.execution) (world_of l.fn.execution);
  text : text_of l.tree ++ tree_lines (shows_of l.fn.tree) (setup_of l.execution) (world_of l.execution) (taken (l.limit - l.counter) (setup_of l.execution) (world_of l.execution)) ≡ text_of l.fn.tree ++ tree_lines (shows_of l.fn.tree) (setup_of l.fn.execution) (world_of l.fn.execution) (taken l.limit (setup_of l.fn.execution) (world_of l.fn.execution));
  same : setup_of l.execution ≡ setup_of l.fn.execution;
  shows : shows_of l.tree ≡ shows_of l.fn.tree;
  facts : facts_in l.tree ≡ facts_in l.fn.tree;
}
