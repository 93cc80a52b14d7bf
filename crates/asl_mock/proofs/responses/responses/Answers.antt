use Rattle.std.proofs.Common.{◌∙◌, [], sym, ap, refl}
use Rattle.asl_json.specs.View.{members_of}
use Rattle.asl_mock.specs.Places.{first_of}
use Rattle.asl_json.specs.Access.{member_list}
use Rattle.asl_mock.specs.Tables.{named}
use Rattle.asl_mock.specs.Answers.{Response, response_of, named_response}
use Rattle.asl_mock.specs.Faults.{overlaps_behind, overlaps_in}
use Rattle.asl_mock.proofs.Names.{is_new}
use Rattle.asl_mock.proofs.Each.{found_at, built_more}
use Rattle.asl_mock.proofs.Giving.{gives_first, gives_value}
use Rattle.asl_mock.proofs.responses.responses.Goals as goal

pub returns-in-Err : goal.returns-in-Err
returns-in-Err c =
    let first = gives_first (λ (r : Response). r) (response_of (members_of c.members.result.now)) (overlaps_behind [] (members_of c.members.result.now)) c.in_ok-response.field-0 c.in-Err.place c.in_ok-response.ensures c.in-Err.is in
    found_at overlaps_in c.args.members.now c.loop-member.member-index c.member-item.result c.as_str.result.now c.in-Err.place c.in_ok-under-in-Err.field-0 c.loop-member-test.true c.member-item.is c.as_str.ensures (ap (λ z. first_of (overlaps_behind [] z)) (sym c.members.ensures.listed) ∙ first) c.in_ok-under-in-Err.ensures c.loop-member.invariant.1

pub loop-member-preserved : goal.loop-member-preserved
loop-member-preserved c =
    let own = gives_value (λ (r : Response). r) (response_of (members_of c.members.result.now)) (overlaps_behind [] (members_of c.members.result.now)) c.in_ok-response.field-0 c.in-Ok.response c.in_ok-response.ensures c.in-Ok.is in
    built_more named_response overlaps_in c.args.members.now c.loop-member.member-index c.member-item.result (named c.loop-member.responses.entries) (named c.add.new.values.entries) _ c.loop-member-test.true c.member-item.is (ap (overlaps_behind []) (sym c.members.ensures.listed) ∙ own.0) (ap (λ z. (c.member-item.result.key, z)) (own.1 ∙ ap response_of c.members.ensures.listed)) c.in_ok-add.ensures.ok c.loop-member.invariant

pub add-requires : goal.add-requires
add-requires c = is_new (λ m. response_of (member_list m.1)) c.args.members.now c.loop-member.member-index c.member-item.result c.member-item.result.key (named c.loop-member.responses.entries) c.requires c.loop-member-test.true c.member-item.is refl c.loop-member.invariant.0
