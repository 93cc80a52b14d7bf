use Rattle.std.proofs.Common.{◌≡◌, drop, List, ℕ}
use Rattle.asl_json_data.specs.Data.{pairs}
use Rattle.asl_json.specs.View.{members_of}
use Rattle.asl_lint_warnings.specs.Graphs.{place_from, place_of}
use Rattle.asl_lint_warnings.specs.private.Places.{place_by}
use Rattle.asl_lint_warnings.proofs.standing.places.Given as goal

abbrev pub invariant-loop-i : goal.invariant-loop-i
invariant-loop-i l = (k : List ℕ) → place_from l.i (place_by l.places k) (pairs (members_of (drop l.i l.states))) k ≡ place_of (pairs (members_of l.states)) k
