use Rattle.std.proofs.Common.{◌≡◌, take}
use Rattle.asl_json.specs.View.{items_of}
use Rattle.asl_intrinsic_functions.proofs.lists.copies.Given as goal

abbrev pub invariant-loop-item : goal.invariant-loop-item
invariant-loop-item l = items_of l.copied.items ≡ items_of (take l.item-index l.items)
