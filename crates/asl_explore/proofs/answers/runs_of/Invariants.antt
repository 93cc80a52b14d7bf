use Rattle.std.proofs.Common.{◌≤◌, ◌-◌}
use Rattle.asl_explore.specs.Remarks.{AreRuns}
use Rattle.asl_explore.proofs.answers.runs_of.Given as goal

-- the runs so far go up to the low number
abbrev pub invariant-loop-low : goal.invariant-loop-low
invariant-loop-low l = record {
  runs : AreRuns l.case l.task 0 l.low l.runs.items;
  within : l.low ≤ 10000;
}

abbrev pub decreases-loop-low : goal.decreases-loop-low
decreases-loop-low l = 10000 - l.low
