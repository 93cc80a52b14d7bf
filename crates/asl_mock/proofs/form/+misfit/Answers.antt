use Rattle.std.proofs.Common.{◌≤◌, subst, arith}
use Rattle.asl_json_data.specs.Data.{depth, members_depth, pairs}
use Rattle.asl_json.specs.View.{member_of}
use Rattle.asl_json_data.specs.Distinct.{Members}
use Rattle.asl_mock.proofs.Below.{member_within, found_below, none_below, all_below}
use Rattle.asl_mock.proofs.form.+misfit.Goals as goal

pub misfit_below-misfit-requires : goal.misfit_below-misfit-requires
misfit_below-misfit-requires t c =
    let within : depth (member_of c.member-item.result).1 ≤ members_depth (pairs c.args.members.now) = subst (λ (ms : Members). depth (member_of c.member-item.result).1 ≤ members_depth (pairs ms)) c.members-members.ensures.members (member_within c.members-members.result.now c.loop-member.member-index c.member-item.result c.loop-member-test.true c.member-item.is) in
    (omega (arith, within), tt)

pub misfit_below-returns-in-Some : goal.misfit_below-returns-in-Some
misfit_below-returns-in-Some t c = found_below c.args.shape c.part.result c.args.members.now c.members-members.result.now c.loop-member.member-index c.member-item.result c.as_str-key.result.now c.in_ok-place.field-0 c.in-Some.place c.in_ok-under.field-0 c.members-members.ensures.members c.loop-member-test.true c.member-item.is c.as_str-key.ensures c.part.ensures c.in_ok-place.ensures c.in-Some.is c.in_ok-under.ensures c.loop-member.invariant

pub misfit_below-loop-member-preserved : goal.misfit_below-loop-member-preserved
misfit_below-loop-member-preserved t c = none_below c.args.shape c.part.result c.members-members.result.now c.loop-member.member-index c.member-item.result c.as_str-key.result.now c.in_ok-place.field-0 c.loop-member-test.true c.member-item.is c.as_str-key.ensures c.part.ensures c.in_ok-place.ensures c.in_default.is c.loop-member.invariant

pub misfit_below-returns : goal.misfit_below-returns
misfit_below-returns t c = all_below c.args.shape c.args.members.now c.members-members.result.now c.loop-member.member-index c.members-members.ensures.members (omega (arith, c.loop-member-test.false)) c.loop-member.invariant
