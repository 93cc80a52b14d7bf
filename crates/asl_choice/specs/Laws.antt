-- What `==` of tests and of what they are made of answers, as a function of the two values that contracts see. Of rules and
-- comparisons `specs/Equal.antt` says it.
use Rattle.std.specs.Prelude.{Bool}
use Rattle.asl_choice.specs.declared.comparison.Test.{Test}
use Rattle.asl_choice.specs.contracts.comparison.TestPartialEq.TheImpl as tests

abbrev pub test_eq : Test → Test → Bool
test_eq = (tests.ghosts).eq
