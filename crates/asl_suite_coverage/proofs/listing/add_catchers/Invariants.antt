use Rattle.std.proofs.Common.{◌≡◌, ◌++◌, drop}
use Rattle.asl_json_data.specs.Data.{chain}
use Rattle.asl_json.specs.View.{items_of}
use Rattle.asl_suite_coverage.specs.Listed.{catcher_points}
use Rattle.asl_suite_coverage.proofs.listing.add_catchers.Given as goal

-- those so far and those of what is left are those of all
abbrev pub invariant-loop-i : goal.invariant-loop-i
invariant-loop-i l = l.points.items ++ catcher_points l.i l.name (chain (items_of (drop l.i l.catchers))) ≡ l.fn.points.items ++ catcher_points 0 l.name (chain (items_of l.catchers))
