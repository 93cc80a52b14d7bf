use Rattle.std.proofs.Common.{◌≡◌, drop}
use Rattle.asl_json_data.specs.Data.{pairs}
use Rattle.asl_json.specs.View.{members_of}
use Rattle.asl_lint_warnings.specs.States.{has_outlasting}
use Rattle.asl_lint_warnings.proofs.limit.has_outlasting.Given as goal

abbrev pub invariant-loop-state : goal.invariant-loop-state
invariant-loop-state l = has_outlasting l.limit (pairs (members_of (drop l.state-index l.states))) ≡ has_outlasting l.limit (pairs (members_of l.states))
