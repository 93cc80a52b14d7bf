use Rattle.std.proofs.Common.{take}
use Rattle.asl_json.specs.View.{members_of}
use Rattle.asl_mock.specs.Form.{unless}
use Rattle.asl_mock.specs.Places.{in_each}
use Rattle.asl_lint_mocks.specs.Beside.{in_case}
use Rattle.asl_lint_mocks.specs.Places.{AreAt, numbers_of}
use Rattle.asl_lint_mocks.specs.private.Fitting.{fitting}
use Rattle.asl_lint_mocks.proofs.beside.in_cases.Given as goal

abbrev pub invariant-loop-i : goal.invariant-loop-i
invariant-loop-i l = AreAt (members_of l.cases) (numbers_of l.all.items) (in_each (in_case (fitting l.sort l.known)) (members_of (take l.i l.cases)))
