use Rattle.std.proofs.Common.{◌≡◌, ◌∙◌, sym, ap}
use Rattle.std.specs.Prelude.{Some, None, is_some}
use Rattle.asl_mock.specs.Key.{span_in as spec_span_in}
use Rattle.asl_mock.specs.Places.{first_of}
use Rattle.asl_mock.specs.Form.{unless}
use Rattle.asl_mock.specs.Faults.{bad_key}
use Rattle.asl_mock.proofs.Each.{found_at, none_more}
use Rattle.asl_mock.proofs.bad_key.bad_key.Goals as goal

pub returns-in_default : goal.returns-in_default
returns-in_default c =
    let none : spec_span_in c.member-item.result.key ≡ None = ap spec_span_in (sym c.as_str-key.ensures) ∙ sym c.span_in.ensures.value ∙ c.in_default.is in
    sym (found_at bad_key c.args.answers.now c.loop-member.member-index c.member-item.result c.as_str-key.result.now c.here.result c.in_ok-under.field-0 c.loop-member-test.true c.member-item.is c.as_str-key.ensures (ap (λ o. first_of (unless (is_some o))) none ∙ ap Some (sym c.here.ensures)) c.in_ok-under.ensures c.loop-member.invariant)

pub loop-member-preserved : goal.loop-member-preserved
loop-member-preserved c =
    let some : spec_span_in c.member-item.result.key ≡ Some c.in-Some.field-0 = ap spec_span_in (sym c.as_str-key.ensures) ∙ sym c.span_in.ensures.value ∙ c.in-Some.is in
    none_more bad_key c.args.answers.now c.loop-member.member-index c.member-item.result c.loop-member-test.true c.member-item.is (ap (λ o. first_of (unless (is_some o))) some) c.loop-member.invariant
