use Rattle.std.proofs.Common.{take}
use Rattle.asl_json.specs.View.{members_of}
use Rattle.asl_mock.specs.Places.{in_each}
use Rattle.asl_lint_mocks.specs.Places.{AreAt, numbers_of}
use Rattle.asl_lint_mocks.specs.Warnings.{gap_in}
use Rattle.asl_lint_mocks.proofs.keys.all_gaps.Given as goal

abbrev pub invariant-loop-i : goal.invariant-loop-i
invariant-loop-i l = AreAt (members_of l.responses) (numbers_of l.all.items) (in_each gap_in (members_of (take l.i l.responses)))
