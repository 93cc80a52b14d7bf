use Rattle.std.proofs.Common.{◌≡◌, ◌+◌, ◌*◌, [], take}
use Rattle.asl_json_data.specs.Data.{depth, members_depth, pairs}
use Rattle.asl_json.specs.View.{data_of, members_of}
use Rattle.asl_mock.specs.Places.{in_each}
use Rattle.asl_mock.proofs.Below.{part_misfits}
use Rattle.asl_mock.proofs.form.+misfit.Given as goal

abbrev pub decreases-misfit : goal.decreases-misfit
decreases-misfit l = 2 * depth (data_of l.value.now)

abbrev pub decreases-misfit_below : goal.decreases-misfit_below
decreases-misfit_below l = 2 * members_depth (pairs l.members.now) + 1

abbrev pub invariant-misfit_below-loop-member : goal.invariant-misfit_below-loop-member
invariant-misfit_below-loop-member l = in_each (part_misfits l.shape) (members_of (take l.member-index l.members)) ≡ []
