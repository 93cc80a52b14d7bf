use Rattle.std.proofs.Common.{◌∙◌, sym, ap, refl}
use Rattle.std.specs.Prelude.{codes, Some}
use Rattle.asl_json.specs.View.{members_of}
use Rattle.asl_mock.specs.Places.{first_of, in_each, under}
use Rattle.asl_json.specs.Access.{member_list_at}
use Rattle.asl_mock.specs.Tables.{named}
use Rattle.asl_mock.specs.Answers.{machine_of, named_machine}
use Rattle.asl_mock.specs.Faults.{lost_in_case, lost_in_machine, is_response}
use Rattle.asl_mock.proofs.Names.{is_new}
use Rattle.asl_mock.proofs.Each.{found_at, built_more, first-under}
use Rattle.asl_mock.proofs.Giving.{gives_first, gives_value}
use Rattle.asl_mock.proofs.case.machines.Goals as goal

pub returns-in-Err : goal.returns-in-Err
returns-in-Err c =
    let rs = named c.args.responses.now.entries in
    let first = gives_first (λ v. named v.entries) (machine_of rs (members_of c.members_at.result.now)) (in_each (lost_in_case (is_response rs)) (members_of c.members_at.result.now)) c.in_ok-own.field-0 c.in-Err.place c.in_ok-own.ensures c.in-Err.is in
    found_at (lost_in_machine (is_response rs)) c.args.members.now c.loop-member.member-index c.member-item.result c.as_str.result.now c.in_ok-place-in-Err.place c.in_ok-under-in-Err.field-0 c.loop-member-test.true c.member-item.is c.as_str.ensures (ap (λ z. first_of (under (codes "TestCases") (in_each (lost_in_case (is_response rs)) z))) (sym c.members_at.ensures.listed) ∙ first-under (codes "TestCases") _ c.in-Err.place first ∙ ap Some (sym c.in_ok-place-in-Err.ensures)) c.in_ok-under-in-Err.ensures c.loop-member.invariant.1

pub loop-member-preserved : goal.loop-member-preserved
loop-member-preserved c =
    let rs = named c.args.responses.now.entries in
    let own = gives_value (λ v. named v.entries) (machine_of rs (members_of c.members_at.result.now)) (in_each (lost_in_case (is_response rs)) (members_of c.members_at.result.now)) c.in_ok-own.field-0 c.in-Ok.own c.in_ok-own.ensures c.in-Ok.is in
    built_more (named_machine rs) (lost_in_machine (is_response rs)) c.args.members.now c.loop-member.member-index c.member-item.result (named c.loop-member.machines.entries) (named c.add.new.values.entries) _ c.loop-member-test.true c.member-item.is (ap (λ z. under (codes "TestCases") (in_each (lost_in_case (is_response rs)) z)) (sym c.members_at.ensures.listed) ∙ ap (under (codes "TestCases")) own.0) (ap (λ z. (c.member-item.result.key, z)) (own.1 ∙ ap (machine_of rs) c.members_at.ensures.listed)) c.in_ok-add.ensures.ok c.loop-member.invariant

pub add-requires : goal.add-requires
add-requires c =
    let rs = named c.args.responses.now.entries in
    is_new (λ m. machine_of rs (member_list_at (codes "TestCases") m.1)) c.args.members.now c.loop-member.member-index c.member-item.result c.member-item.result.key (named c.loop-member.machines.entries) c.requires c.loop-member-test.true c.member-item.is refl c.loop-member.invariant.0
