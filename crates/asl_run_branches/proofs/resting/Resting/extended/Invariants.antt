use Rattle.std.proofs.Common.{◌-◌, length}
use Rattle.asl_run_branches.specs.private.Resting.{IsResting}
use Rattle.asl_run_branches.proofs.resting.Resting.extended.Given as goal

abbrev pub invariant-loop-resting : goal.invariant-loop-resting
invariant-loop-resting l = IsResting l.resting l.children

abbrev pub decreases-loop-resting : goal.decreases-loop-resting
decreases-loop-resting l = length l.children - l.resting.idle
