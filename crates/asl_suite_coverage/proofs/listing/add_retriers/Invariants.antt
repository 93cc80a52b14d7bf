use Rattle.std.proofs.Common.{◌≡◌, ◌++◌, drop}
use Rattle.asl_json_data.specs.Data.{chain}
use Rattle.asl_json.specs.View.{items_of}
use Rattle.asl_suite_coverage.specs.Listed.{retrier_points}
use Rattle.asl_suite_coverage.proofs.listing.add_retriers.Given as goal

-- those so far and those of what is left are those of all
abbrev pub invariant-loop-i : goal.invariant-loop-i
invariant-loop-i l = l.points.items ++ retrier_points l.i l.name (chain (items_of (drop l.i l.retriers))) ≡ l.fn.points.items ++ retrier_points 0 l.name (chain (items_of l.retriers))
