use Rattle.std.proofs.Common.{◌∙◌, sym, ap}
use Rattle.asl_mock.specs.Places.{first_of, in_each}
use Rattle.asl_mock.specs.Faults.{bad_key, bad_keys_in}
use Rattle.asl_mock.proofs.Each.{found_at, none_more}
use Rattle.asl_mock.proofs.bad_key.first_bad_key.Goals as goal

pub returns-in-Some : goal.returns-in-Some
returns-in-Some c = sym (found_at bad_keys_in c.args.responses.now c.loop-member.member-index c.member-item.result c.as_str-key.result.now c.in-Some.place c.in_ok-under.field-0 c.loop-member-test.true c.member-item.is c.as_str-key.ensures (ap (λ z. first_of (in_each bad_key z)) (sym c.members.ensures.listed) ∙ sym c.in_ok-place.ensures ∙ c.in-Some.is) c.in_ok-under.ensures c.loop-member.invariant)

pub loop-member-preserved : goal.loop-member-preserved
loop-member-preserved c = none_more bad_keys_in c.args.responses.now c.loop-member.member-index c.member-item.result c.loop-member-test.true c.member-item.is (ap (λ z. first_of (in_each bad_key z)) (sym c.members.ensures.listed) ∙ sym c.in_ok-place.ensures ∙ c.in_default.is) c.loop-member.invariant
