use Rattle.std.proofs.Common.{◌≡◌, ◌++◌, drop}
use Rattle.asl_json.specs.View.{members_of}
use Rattle.asl_suite_coverage.specs.Listed.{answer_points}
use Rattle.asl_suite_coverage.proofs.listing.add_answers.Given as goal

-- those so far and those of what is left are those of all
abbrev pub invariant-loop-i : goal.invariant-loop-i
invariant-loop-i l = l.points.items ++ answer_points l.i l.response (members_of (drop l.i l.answers)) ≡ l.fn.points.items ++ answer_points 0 l.response (members_of l.answers)
