use Rattle.std.proofs.Common.{◌≡◌, ◌++◌, drop}
use Rattle.std.specs.Prelude.{option_map}
use Rattle.asl_json.specs.View.{data_of}
use Rattle.asl_exec.specs.Views.{setup_of, world_of}
use Rattle.asl_suite_coverage.specs.Covered.{steps_spots}
use Rattle.asl_suite_coverage.proofs.observing.add_steps.Given as goal

-- what was added and what is left is that of all
abbrev pub invariant-loop-at : goal.invariant-loop-at
invariant-loop-at l =
    l.seen.items ++ steps_spots (data_of l.mocks) (option_map (λ v. data_of v.now) l.case) l.context.facts (setup_of l.execution) (world_of l.execution) (drop l.at-index l.steps)
    ≡ l.fn.seen.items ++ steps_spots (data_of l.mocks) (option_map (λ v. data_of v.now) l.case) l.fn.context.facts (setup_of l.fn.execution) (world_of l.fn.execution) l.steps
