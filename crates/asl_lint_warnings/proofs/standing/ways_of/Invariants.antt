use Rattle.std.proofs.Common.{◌≡◌, ◌++◌, drop}
use Rattle.std.specs.Prelude.{map}
use Rattle.asl_json_data.specs.Data.{pairs}
use Rattle.asl_json.specs.View.{members_of}
use Rattle.asl_lint_warnings.specs.Graphs.{edges_from, ends_from}
use Rattle.asl_lint_warnings.specs.private.Places.{place_by}
use Rattle.asl_lint_warnings.proofs.standing.ways_of.Given as goal

abbrev pub invariant-loop-i : goal.invariant-loop-i
invariant-loop-i l = record {
  edges : map (λ v. v.items) l.edges.items ++ edges_from (place_by l.places) (pairs (members_of (drop l.i l.states))) ≡ edges_from (place_by l.places) (pairs (members_of l.states));
  ends : l.ends.items ++ ends_from (place_by l.places) l.i (pairs (members_of (drop l.i l.states))) ≡ ends_from (place_by l.places) 0 (pairs (members_of l.states));
}
