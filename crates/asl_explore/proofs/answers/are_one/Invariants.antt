use Rattle.std.proofs.Common.{ℕ, ◌≤◌, ◌+◌, List, drop}
use Rattle.asl_mock.specs.Answers.{Case}
use Rattle.asl_explore.specs.Remarks.{AreRuns}
use Rattle.asl_explore.specs.Settled.{last_answer}
use Rattle.asl_explore.proofs.answers.are_one.Given as goal

-- the runs that are left begin at this number or below it
abbrev pub invariant-loop-run : goal.invariant-loop-run
invariant-loop-run l =
    (c : Case) (name : List ℕ) → AreRuns c name 0 (last_answer + 1) l.runs
    → (low : ℕ) × ((low ≤ l.from) × AreRuns c name low (last_answer + 1) (drop l.run-index l.runs))
