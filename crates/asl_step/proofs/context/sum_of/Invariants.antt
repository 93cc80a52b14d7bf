use Rattle.std.proofs.Common.{◌≡◌, ◌≤◌, ◌+◌, ◌*◌, ◌^◌, sum, drop}
use Rattle.asl_step.proofs.context.sum_of.Given as goal

abbrev pub invariant-loop-count : goal.invariant-loop-count
invariant-loop-count l = record {
  summed : l.total + sum (drop l.count-index l.uses) ≡ sum l.uses;
  small : l.total ≤ l.count-index * 2 ^ 32;
}
