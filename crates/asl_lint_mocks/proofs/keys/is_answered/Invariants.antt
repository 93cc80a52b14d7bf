use Rattle.std.proofs.Common.{◌≡◌, drop}
use Rattle.asl_json.specs.View.{members_of}
use Rattle.asl_lint_mocks.specs.Warnings.{is_answered}
use Rattle.asl_lint_mocks.proofs.keys.is_answered.Given as goal

abbrev pub invariant-loop-member : goal.invariant-loop-member
invariant-loop-member l = is_answered (members_of (drop l.member-index l.answers)) l.number ≡ is_answered (members_of l.answers) l.number
