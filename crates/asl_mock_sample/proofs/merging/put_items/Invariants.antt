use Rattle.std.proofs.Common.{◌≡◌, ◌++◌, drop}
use Rattle.asl_json.specs.View.{items_of}
use Rattle.asl_mock_sample.proofs.merging.put_items.Given as goal

abbrev pub invariant-loop-number : goal.invariant-loop-number
invariant-loop-number l = items_of l.values.items ++ items_of (drop l.number l.items) ≡ items_of l.fn.values.items ++ items_of (drop l.from l.items)
