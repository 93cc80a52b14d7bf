use Rattle.std.proofs.Common.{◌≡◌, ◌++◌, drop}
use Rattle.asl_json.specs.View.{members_of}
use Rattle.asl_lint_choices.specs.Conditions.{without_asides}
use Rattle.asl_lint_choices.specs.View.{lent}
use Rattle.asl_lint_choices.proofs.condition.condition_of.Given as goal

abbrev pub invariant-loop-member : goal.invariant-loop-member
invariant-loop-member l = lent l.members.items ++ without_asides (members_of (drop l.member-index l.member-items)) ≡ without_asides (members_of l.member-items)
