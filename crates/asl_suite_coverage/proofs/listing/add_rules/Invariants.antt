use Rattle.std.proofs.Common.{◌≡◌, ◌++◌, drop}
use Rattle.asl_json_data.specs.Data.{chain}
use Rattle.asl_json.specs.View.{items_of}
use Rattle.asl_suite_coverage.specs.Listed.{rule_points}
use Rattle.asl_suite_coverage.proofs.listing.add_rules.Given as goal

-- those so far and those of what is left are those of all
abbrev pub invariant-loop-i : goal.invariant-loop-i
invariant-loop-i l = l.points.items ++ rule_points l.i l.name (chain (items_of (drop l.i l.rules))) ≡ l.fn.points.items ++ rule_points 0 l.name (chain (items_of l.rules))
