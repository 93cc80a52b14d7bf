use Rattle.std.proofs.Common.{◌≡◌, ◌++◌, drop, string_bytes}
use Rattle.asl_lint_choices.specs.View.{lent}
use Rattle.asl_lint_choices.specs.private.Texts.{text_of}
use Rattle.asl_lint_choices.proofs.condition.Condition.text.Given as goal

abbrev pub invariant-loop-member : goal.invariant-loop-member
invariant-loop-member l = string_bytes l.out ++ text_of (lent (drop l.member-index l.self.members.items)) ≡ text_of (lent l.self.members.items)
