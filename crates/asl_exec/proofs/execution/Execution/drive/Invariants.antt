use Rattle.std.proofs.Common.{◌≡◌}
use Rattle.asl_exec.specs.Driving.{driven, driven_steps}
use Rattle.asl_exec.specs.Views.{setup_of, world_of}
use Rattle.asl_exec.proofs.execution.Execution.drive.Given as goal

-- so many steps were taken
abbrev pub invariant-loop-count : goal.invariant-loop-count
invariant-loop-count l = record {
  world : world_of l.self ≡ driven l.count (setup_of l.fn.self) (world_of l.fn.self);
  steps : driven_steps l.count (setup_of l.fn.self) (world_of l.fn.self) ≡ l.count;
  same : setup_of l.self ≡ setup_of l.fn.self;
}
