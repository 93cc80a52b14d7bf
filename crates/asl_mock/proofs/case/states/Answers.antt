use Rattle.std.proofs.Common.{◌≡◌, ◌∙◌, sym, ap, refl}
use Rattle.std.specs.Prelude.{[], Some, None, is_some, option_map, unwrap_or}
use Rattle.asl_json.specs.View.{data_of}
use Rattle.asl_mock.specs.Places.{first_of}
use Rattle.asl_mock.specs.Form.{unless}
use Rattle.asl_mock.specs.Tables.{named, value_for}
use Rattle.asl_mock.specs.Answers.{text_of, named_state}
use Rattle.asl_mock.specs.Faults.{lost_name, is_response}
use Rattle.asl_mock.proofs.Names.{is_new}
use Rattle.asl_mock.proofs.Each.{found_at, built_more}
use Rattle.asl_mock.proofs.case.states.Goals as goal

pub returns-in_default : goal.returns-in_default
returns-in_default c =
    let rs = named c.args.responses.now.entries in
    let none : value_for (text_of (Some (data_of c.member-item.result.value))) rs ≡ None = ap (λ z. value_for z rs) (sym c.text_in.ensures) ∙ sym c.find.ensures ∙ ap (option_map (λ v. v.now)) c.in_default.is in
    found_at (lost_name (is_response rs)) c.args.members.now c.loop-member.member-index c.member-item.result c.as_str.result.now c.here.result c.in_ok-under.field-0 c.loop-member-test.true c.member-item.is c.as_str.ensures (ap (λ o. first_of (unless (is_some o))) none ∙ ap Some (sym c.here.ensures)) c.in_ok-under.ensures c.loop-member.invariant.1

pub loop-member-preserved : goal.loop-member-preserved
loop-member-preserved c =
    let rs = named c.args.responses.now.entries in
    let some : value_for (text_of (Some (data_of c.member-item.result.value))) rs ≡ Some c.in-Some.response.now = ap (λ z. value_for z rs) (sym c.text_in.ensures) ∙ sym c.find.ensures ∙ ap (option_map (λ v. v.now)) c.in-Some.is in
    built_more (named_state rs) (lost_name (is_response rs)) c.args.members.now c.loop-member.member-index c.member-item.result (named c.loop-member.states.entries) (named c.add.new.values.entries) _ c.loop-member-test.true c.member-item.is (ap (λ o. unless (is_some o)) some) (ap (λ z. (c.member-item.result.key, z)) (c.in_ok-value.ensures ∙ ap (λ o. unwrap_or o []) (sym some))) c.in_ok-add.ensures.ok c.loop-member.invariant

pub add-requires : goal.add-requires
add-requires c =
    let rs = named c.args.responses.now.entries in
    is_new (λ m. unwrap_or (value_for (text_of (Some m.1)) rs) []) c.args.members.now c.loop-member.member-index c.member-item.result c.member-item.result.key (named c.loop-member.states.entries) c.requires c.loop-member-test.true c.member-item.is refl c.loop-member.invariant.0
