use Rattle.asl_json.specs.View.{data_of}
use Rattle.asl_mock.specs.Key.{span_in}
use Rattle.asl_mock.proofs.Giving.{added_none, added_some}
use Rattle.asl_mock.proofs.Overlapping.{sorted_more, overlap_at}
use Rattle.asl_mock.proofs.responses.response_in.Goals as goal

pub returns-in_default : goal.returns-in_default
returns-in_default c =
    let m = c.member-item.result in
    let met = added_none (span_in m.key) (data_of m.value) c.loop-member.answers.items c.in_ok-more.field-0 c.in_ok-more.ensures c.in_default.is in
    overlap_at c.args.members.now c.loop-member.member-index m c.loop-member.answers.items c.as_str.result.now c.here.result c.in_ok-under.field-0 c.loop-member-test.true c.member-item.is c.as_str.ensures c.here.ensures c.in_ok-under.ensures met c.loop-member.invariant

pub loop-member-preserved : goal.loop-member-preserved
loop-member-preserved c =
    let m = c.member-item.result in
    let some = added_some (span_in m.key) (data_of m.value) c.loop-member.answers.items c.in_ok-more.field-0 c.in-Some.more c.in_ok-more.ensures c.in-Some.is in
    sorted_more c.args.members.now c.loop-member.member-index m c.loop-member.answers.items c.in-Some.more.items c.loop-member-test.true c.member-item.is some c.loop-member.invariant
