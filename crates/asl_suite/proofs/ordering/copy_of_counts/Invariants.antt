use Rattle.std.proofs.Common.{◌≡◌, ◌++◌, drop}
use Rattle.asl_suite.proofs.ordering.copy_of_counts.Given as goal

-- the copies and those that are left are all
abbrev pub invariant-loop-count : goal.invariant-loop-count
invariant-loop-count l = l.copies.items ++ drop l.count-index l.counts ≡ l.counts
