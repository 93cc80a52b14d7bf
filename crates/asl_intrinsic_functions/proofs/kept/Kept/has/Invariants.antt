use Rattle.asl_json.specs.View.{data_of, items_of}
use Rattle.asl_intrinsic_functions.proofs.Linking.{IsLeft, left_count}
use Rattle.asl_intrinsic_functions.proofs.kept.Kept.has.Given as goal

abbrev pub invariant-loop-next : goal.invariant-loop-next
invariant-loop-next l = IsLeft (data_of l.item) l.next (items_of l.self-inside.items.items)

abbrev pub decreases-loop-next : goal.decreases-loop-next
decreases-loop-next l = left_count l.next
