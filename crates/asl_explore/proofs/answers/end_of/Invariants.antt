use Rattle.std.proofs.Common.{ℕ, ◌≡◌, ◌≤◌, ◌-◌}
use Rattle.asl_mock.specs.Answers.{answer_to}
use Rattle.asl_explore.proofs.answers.end_of.Given as goal

-- the answers are equal from the low number on up to here
abbrev pub invariant-loop-number : goal.invariant-loop-number
invariant-loop-number l = record {
  order : l.low ≤ l.number;
  within : l.number ≤ 9999;
  one : (i : ℕ) → l.low ≤ i → i ≤ l.number → answer_to l.case l.task i ≡ answer_to l.case l.task l.low;
}

abbrev pub decreases-loop-number : goal.decreases-loop-number
decreases-loop-number l = 9999 - l.number
