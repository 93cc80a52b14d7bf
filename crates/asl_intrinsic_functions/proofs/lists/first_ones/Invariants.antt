use Rattle.std.proofs.Common.{◌≡◌, drop, []}
use Rattle.asl_json.specs.View.{items_of}
use Rattle.asl_intrinsic_functions.specs.Lists.{first_ones}
use Rattle.asl_intrinsic_functions.specs.private.Loops.{kept_of}
use Rattle.asl_intrinsic_functions.proofs.lists.first_ones.Given as goal

abbrev pub invariant-loop-item : goal.invariant-loop-item
invariant-loop-item l = kept_of l.kept (items_of (drop l.item-index l.items)) ≡ first_ones [] (items_of l.items)
