use Rattle.std.proofs.Common.{◌≡◌, ◌++◌, drop}
use Rattle.std.specs.List.{flat_map}
use Rattle.asl_json.specs.View.{members_of}
use Rattle.asl_suite_coverage.specs.Listed.{response_points}
use Rattle.asl_suite_coverage.proofs.listing.add_responses.Given as goal

-- those so far and those of what is left are those of all
abbrev pub invariant-loop-response : goal.invariant-loop-response
invariant-loop-response l = l.points.items ++ flat_map response_points (members_of (drop l.response-index l.responses)) ≡ l.fn.points.items ++ flat_map response_points (members_of l.responses)
