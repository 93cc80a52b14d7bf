use Rattle.std.proofs.Common.{◌≡◌, ◌++◌, drop}
use Rattle.std.specs.Prelude.{map}
use Rattle.std.specs.HashSet.{contains_text}
use Rattle.asl_lint.specs.Mocks.{without_answer}
use Rattle.asl_lint.specs.private.Founds.{noted}
use Rattle.asl_lint.proofs.mocks.add_without_answer.Given as goal

abbrev pub invariant-loop-state : goal.invariant-loop-state
invariant-loop-state l = map noted l.found.items ++ without_answer (contains_text l.answered) (drop l.state-index l.states) ≡ map noted l.fn.found.items ++ without_answer (contains_text l.answered) l.states
