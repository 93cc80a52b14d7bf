use Rattle.std.proofs.Common.{◌≡◌, pos, ◌≤ℤ◌, ◌<ℤ◌}
use Rattle.asl_json.specs.View.{items_of}
use Rattle.asl_intrinsic_functions.specs.Lists.{counted}
use Rattle.asl_intrinsic_functions.proofs.Counting.{behind}
use Rattle.asl_intrinsic_functions.proofs.range.counted.Given as goal

abbrev pub invariant-count : goal.invariant-count
invariant-count l = (behind (items_of l.values.items) (counted l.left l.stride l.end l.value) ≡ counted l.most l.stride l.end l.first)
    × (pos 0 <ℤ l.stride → l.first ≤ℤ l.value) × (l.stride ≤ℤ pos 0 → l.value ≤ℤ l.first)

abbrev pub decreases-count : goal.decreases-count
decreases-count l = l.left
