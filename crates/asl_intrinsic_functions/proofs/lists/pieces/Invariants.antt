use Rattle.std.proofs.Common.{◌≡◌, ◌++◌, ◌+◌, ◌-◌, ◌≤◌, length}
use Rattle.asl_json.specs.View.{items_of}
use Rattle.asl_intrinsic_functions.specs.Lists.{pieces}
use Rattle.asl_intrinsic_functions.proofs.lists.pieces.Given as goal

abbrev pub invariant-loop-rest : goal.invariant-loop-rest
invariant-loop-rest l = (items_of l.pieces.items ++ pieces (length l.items - length l.pieces.items) l.size (items_of l.rest) ≡ pieces (length l.items) l.size (items_of l.items)) × (length l.rest + length l.pieces.items ≤ length l.items)

abbrev pub decreases-loop-rest : goal.decreases-loop-rest
decreases-loop-rest l = length l.rest
