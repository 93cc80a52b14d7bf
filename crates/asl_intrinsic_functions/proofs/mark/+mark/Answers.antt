use Rattle.std.proofs.Common.{subst, sym}
use Rattle.std.specs.Prelude.{List}
use Rattle.std.proofs.lemmas.List.{drop_all}
use Rattle.asl_json.specs.View.{members_of}
use Rattle.asl_json.specs.declared.value.Member.{Member}
use Rattle.asl_intrinsic_functions.proofs.Marking.{AreValuesApart, apart_members}
use Rattle.asl_intrinsic_functions.proofs.mark.+mark.Goals as goal

pub members_mark-returns-clause-apart : goal.members_mark-returns-clause-apart
members_mark-returns-clause-apart t c =
    let end = drop_all c.loop-member.member-index c.members-pairs.result.now c.loop-member-test.false in
    apart_members c.args.members.now c.members-pairs.ensures.distinct (c.loop-member.invariant.3 (subst (λ (ms : List Member). AreValuesApart (members_of ms)) (sym end) tt))
