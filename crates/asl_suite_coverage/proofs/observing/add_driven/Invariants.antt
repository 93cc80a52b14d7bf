use Rattle.std.proofs.Common.{◌≡◌, ◌++◌, ◌-◌}
use Rattle.std.specs.Prelude.{option_map}
use Rattle.asl_json.specs.View.{data_of}
use Rattle.asl_exec.specs.Views.{setup_of, world_of}
use Rattle.asl_suite_coverage.specs.Covered.{driven_spots}
use Rattle.asl_suite_coverage.proofs.observing.add_driven.Given as goal

-- what was added and what is left is that of all
abbrev pub invariant-loop : goal.invariant-loop
invariant-loop l = record {
  spots : l.seen.items ++ driven_spots (data_of l.mocks) (option_map (λ v. data_of v.now) l.case) l.context.facts (l.limit - l.counter) (setup_of l.execution) (world_of l.execution)
      ≡ l.fn.seen.items ++ driven_spots (data_of l.mocks) (option_map (λ v. data_of v.now) l.case) l.fn.context.facts l.limit (setup_of l.fn.execution) (world_of l.fn.execution);
}
