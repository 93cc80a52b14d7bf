use Rattle.std.proofs.Common.{ℕ, ◌≡◌, ◌<◌}
use Rattle.std.specs.Prelude.{slice_index}
use Rattle.asl_explore.proofs.met.are_counted_alike.Given as goal

-- each of the states so far was invoked as often
abbrev pub invariant-loop-number : goal.invariant-loop-number
invariant-loop-number l = (k : ℕ) → k < l.number → slice_index l.one.counts k ≡ slice_index l.other.counts k
