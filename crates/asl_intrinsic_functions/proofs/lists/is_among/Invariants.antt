use Rattle.std.proofs.Common.{◌≡◌, drop}
use Rattle.std.specs.List.{list_any}
use Rattle.asl_json.specs.Meaning.{same}
use Rattle.asl_json.specs.View.{data_of, items_of}
use Rattle.asl_intrinsic_functions.proofs.lists.is_among.Given as goal

abbrev pub invariant-loop-item : goal.invariant-loop-item
invariant-loop-item l = list_any (λ x. same x (data_of l.value)) (items_of (drop l.item-index l.items)) ≡ list_any (λ x. same x (data_of l.value)) (items_of l.items)
