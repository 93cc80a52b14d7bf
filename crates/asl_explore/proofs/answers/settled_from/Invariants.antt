use Rattle.std.proofs.Common.{◌≤◌, ◌-◌}
use Rattle.asl_explore.proofs.answers.settled_from.Given as goal

abbrev pub invariant-loop-from : goal.invariant-loop-from
invariant-loop-from l = l.from ≤ 9999

abbrev pub decreases-loop-from : goal.decreases-loop-from
decreases-loop-from l = 9999 - l.from
