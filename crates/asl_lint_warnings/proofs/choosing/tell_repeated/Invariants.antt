use Rattle.std.proofs.Common.{◌≡◌, ◌++◌, drop}
use Rattle.std.specs.Prelude.{map}
use Rattle.asl_lint_warnings.specs.Choices.{repeat_noted}
use Rattle.asl_lint_warnings.specs.private.Trails.{steps_of}
use Rattle.asl_lint_warnings.proofs.choosing.tell_repeated.Given as goal

-- what was told so far and what is left are all
abbrev pub invariant-loop-found : goal.invariant-loop-found
invariant-loop-found l = l.told.items ++ map (repeat_noted (steps_of l.trail)) (drop l.found-index l.found-items) ≡ l.fn.told.items ++ map (repeat_noted (steps_of l.trail)) l.found-items
