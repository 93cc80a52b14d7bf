use Rattle.std.proofs.Common.{◌+◌, ◌*◌, take}
use Rattle.asl_json_data.specs.Data.{depth, members_depth, pairs}
use Rattle.asl_json.specs.View.{data_of, members_of}
use Rattle.asl_mock.specs.Places.{in_each}
use Rattle.asl_lint_mocks.specs.Places.{AreAt, numbers_of}
use Rattle.asl_lint_mocks.proofs.Each.{part_misfits}
use Rattle.asl_lint_mocks.proofs.misfits.+misfits.Given as goal

abbrev pub decreases-misfits : goal.decreases-misfits
decreases-misfits l = 2 * depth (data_of l.value.now)

abbrev pub decreases-misfits_below : goal.decreases-misfits_below
decreases-misfits_below l = 2 * members_depth (pairs l.members.now) + 1

abbrev pub invariant-misfits_below-loop-i : goal.invariant-misfits_below-loop-i
invariant-misfits_below-loop-i l = AreAt (members_of l.members) (numbers_of l.all.items) (in_each (part_misfits l.shape) (members_of (take l.i l.members)))
