use Rattle.std.proofs.Common.{◌≡◌, replicate, None}
use Rattle.asl_explore.proofs.judging.none_refused.Given as goal

abbrev pub invariant-loop : goal.invariant-loop
invariant-loop g l = record {
  none : l.list.items ≡ replicate l.counter None;
}
