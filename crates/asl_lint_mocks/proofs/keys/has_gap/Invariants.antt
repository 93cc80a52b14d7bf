use Rattle.std.proofs.Common.{◌≡◌, ◌<◌, ℕ, drop, true}
use Rattle.std.specs.List.{list_any}
use Rattle.asl_json.specs.View.{members_of}
use Rattle.asl_mock.specs.Key.{span_in}
use Rattle.asl_lint_mocks.specs.Warnings.{is_answered, begins_bare, has_gap}
use Rattle.asl_lint_mocks.proofs.keys.has_gap.Given as goal

abbrev pub invariant-loop-member : goal.invariant-loop-member
invariant-loop-member l = record {
  reach : (n : ℕ) → n < l.reach → is_answered (members_of l.answers) n ≡ true;
  left : list_any (λ m. begins_bare (members_of l.answers) (span_in m.0)) (members_of (drop l.member-index l.answers)) ≡ has_gap (members_of l.answers);
}
