use Rattle.std.proofs.Common.{take, List}
use Rattle.asl_json.specs.View.{members_of}
use Rattle.asl_mock.specs.Answers.{Response}
use Rattle.asl_mock.specs.Places.{in_each}
use Rattle.asl_mock.specs.Tables.{Named}
use Rattle.asl_mock.specs.Faults.{lost_name}
use Rattle.asl_lint_mocks.specs.Lost.{is_known}
use Rattle.asl_lint_mocks.specs.Places.{AreAt, numbers_of}
use Rattle.asl_lint_mocks.specs.private.Known.{HasNames}
use Rattle.asl_lint_mocks.proofs.names.lost_in_case.Given as goal

abbrev pub invariant-loop-i : goal.invariant-loop-i
invariant-loop-i l = (rs : List (Named Response)) → HasNames l.names rs → AreAt (members_of l.states) (numbers_of l.all.items) (in_each (lost_name (is_known rs)) (members_of (take l.i l.states)))
