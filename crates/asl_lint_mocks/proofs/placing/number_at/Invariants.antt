use Rattle.std.proofs.Common.{◌≡◌, drop}
use Rattle.asl_json.specs.View.{members_of}
use Rattle.asl_lint_mocks.specs.private.Spots.{number_at}
use Rattle.asl_lint_mocks.proofs.placing.number_at.Given as goal

abbrev pub invariant-loop-i : goal.invariant-loop-i
invariant-loop-i l = number_at l.key l.i (members_of (drop l.i l.members)) ≡ number_at l.key 0 (members_of l.members)
