use Rattle.std.proofs.Common.{◌≡◌, drop}
use Rattle.asl_json.specs.View.{members_of}
use Rattle.asl_lint_choices.specs.Ands.{is_one}
use Rattle.asl_lint_choices.specs.Conditions.{without_asides}
use Rattle.asl_lint_choices.proofs.Parts.{one_more}
use Rattle.asl_lint_choices.proofs.ands.has_one_part.Given as goal

abbrev pub invariant-loop-member : goal.invariant-loop-member
invariant-loop-member l = one_more l.has_part (without_asides (members_of (drop l.member-index l.member-items))) ≡ is_one (without_asides (members_of l.member-items))
