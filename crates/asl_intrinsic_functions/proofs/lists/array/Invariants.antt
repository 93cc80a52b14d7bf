use Rattle.std.proofs.Common.{◌≡◌, take}
use Rattle.asl_json.specs.View.{items_of}
use Rattle.asl_intrinsic_functions.specs.Seen.{all_seen}
use Rattle.asl_intrinsic_functions.proofs.lists.array.Given as goal

abbrev pub invariant-loop-value : goal.invariant-loop-value
invariant-loop-value l = items_of l.items.items ≡ all_seen (take l.value-index l.values)
