use Rattle.std.proofs.Common.{◌≡◌, drop}
use Rattle.std.specs.List.{list_any}
use Rattle.asl_json.specs.View.{members_of}
use Rattle.asl_mock.specs.Faults.{meets}
use Rattle.asl_lint_mocks.proofs.keys.meets_any.Given as goal

abbrev pub invariant-loop-member : goal.invariant-loop-member
invariant-loop-member l = list_any (meets l.span) (members_of (drop l.member-index l.answers)) ≡ list_any (meets l.span) (members_of l.answers)
