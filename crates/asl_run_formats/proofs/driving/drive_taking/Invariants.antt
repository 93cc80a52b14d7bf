use Rattle.std.proofs.Common.{◌≡◌, ◌++◌, ◌-◌}
use Rattle.asl_exec.specs.Driving.{driven}
use Rattle.asl_exec.specs.Views.{setup_of, world_of}
use Rattle.asl_run_formats.specs.Taken.{taken}
use Rattle.asl_run_formats.proofs.driving.drive_taking.Given as goal

-- the steps so far and those that are left are all, and lead to where all lead
abbrev pub invariant-loop : goal.invariant-loop
invariant-loop l = record {
  steps : l.steps.items ++ taken (l.limit - l.counter) (setup_of l.execution) (world_of l.execution) ≡ taken l.limit (setup_of l.fn.execution) (world_of l.fn.execution);
  world : driven (l.limit - l.counter) (setup_of l.execution) (world_of l.execution) ≡ driven l.limit (setup_of l.fn.execution) (world_of l.fn.execution);
  same : setup_of l.execution ≡ setup_of l.fn.execution;
}
