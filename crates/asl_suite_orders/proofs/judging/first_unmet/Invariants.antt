use Rattle.std.proofs.Common.{◌≡◌, ◌+◌, vec_len}
use Rattle.std.specs.Vec.Iter.{into_iter_items, into_iter_len}
use Rattle.asl_suite_orders.specs.Judging.{unmet_from}
use Rattle.asl_suite_orders.proofs.judging.first_unmet.Given as goal

-- the first one is in what is left
abbrev pub invariant-loop-outcome : goal.invariant-loop-outcome
invariant-loop-outcome l = record {
  left : unmet_from l.suite l.test l.calls l.before (into_iter_items l.outcome-iterator) ≡ unmet_from l.suite l.test l.calls 0 l.fn.found.items;
  so-many : l.before + into_iter_len l.outcome-iterator ≡ vec_len l.fn.found;
}
