use Rattle.std.proofs.Common.{◌≡◌, ◌∙◌, sym, ap, subst}
use Rattle.std.specs.Prelude.{Some, List}
use Rattle.asl_mock.specs.Key.{span_in as spec_span_in}
use Rattle.asl_mock.specs.private.Apart.{Meets, any_has}
use Rattle.asl_mock.specs.declared.response.Ranged.{Ranged}
use Rattle.asl_mock.proofs.Spots.{met_has_one, more_there}
use Rattle.asl_mock.proofs.ranges.added.Goals as goal

pub returns-in_default-spot : goal.returns-in_default-spot
returns-in_default-spot c =
    let is : spec_span_in c.args.member.now.key ≡ Some c.in-Some.span = ap spec_span_in (sym c.as_str.ensures) ∙ sym c.span_in.ensures.value ∙ c.in-Some.is in
    ap (λ o. any_has o c.args.answers.items) is ∙ met_has_one c.in-Some.span c.args.answers.items c.in_default-spot.field-0 (subst (λ (x : List Ranged). Meets c.in-Some.span x c.in_default-spot.field-0) c.deref.ensures.value c.in_default-spot.ensures.met)

pub returns : goal.returns
returns c =
    let is : spec_span_in c.args.member.now.key ≡ Some c.in-Some.span = ap spec_span_in (sym c.as_str.ensures) ∙ sym c.span_in.ensures.value ∙ c.in-Some.is in
    more_there (spec_span_in c.args.member.now.key) c.in-Some.span _ c.in_ok-answer.answer c.args.answers.items c.deref.result.now c.insert.new.self.items c.in-Err.at is c.deref.ensures.value c.requires c.in-Some.ensures.order c.in-Err.ensures.free c.in_ok-answer.ensures c.in_ok-insert.ensures.items
