use Rattle.std.proofs.Common.{◌∙◌, refl, subst, List, ℕ, ◌≡◌, false}
use Rattle.asl_def_schema.specs.Members.{is_among}
use Rattle.asl_choice.specs.Rules.{kind_names}
use Rattle.asl_choice.proofs.Decided.{skips_none, skips_more, decided_here}
use Rattle.asl_choice.proofs.rule.deciding.Goals as goal

pub loop-member-init : goal.loop-member-init
loop-member-init c = skips_none c.args.members.now

pub loop-member-preserved : goal.loop-member-preserved
loop-member-preserved c =
    let off = subst (λ (n : List ℕ). is_among n kind_names ≡ false) c.as_str.ensures (c.in_default.ensures.none refl) in
    skips_more c.args.members.now c.args.members.now c.loop-member.member-index c.member-item.result c.loop-member-test.true c.member-item.is off c.loop-member.invariant

pub returns-in-Some-clause-found : goal.returns-in-Some-clause-found
returns-in-Some-clause-found c = decided_here c.args.members.now c.args.members.now c.loop-member.member-index c.member-item.result c.in-Some.kind c.loop-member-test.true c.member-item.is (c.in-Some.ensures.found ∙ c.as_str.ensures) c.loop-member.invariant
