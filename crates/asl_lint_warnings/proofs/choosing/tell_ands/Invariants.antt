use Rattle.std.proofs.Common.{◌≡◌, ◌++◌, drop}
use Rattle.std.specs.Prelude.{map}
use Rattle.asl_json.specs.View.{data_of}
use Rattle.asl_lint_choices.specs.View.{all_told}
use Rattle.asl_lint_warnings.specs.Choices.{and_noted}
use Rattle.asl_lint_warnings.specs.private.Trails.{steps_of}
use Rattle.asl_lint_warnings.proofs.choosing.tell_ands.Given as goal

-- what was told so far and what is left are all
abbrev pub invariant-loop-found : goal.invariant-loop-found
invariant-loop-found l = l.told.items ++ map (and_noted (steps_of l.trail) (data_of l.rule)) (all_told (drop l.found-index l.found-items)) ≡ l.fn.told.items ++ map (and_noted (steps_of l.trail) (data_of l.rule)) (all_told l.found-items)
