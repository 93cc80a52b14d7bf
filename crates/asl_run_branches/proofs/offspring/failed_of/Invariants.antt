use Rattle.std.proofs.Common.{◌≡◌, ◌+◌, drop}
use Rattle.asl_run_branches.specs.Trees.{count_failed}
use Rattle.asl_run_branches.proofs.offspring.failed_of.Given as goal

abbrev pub invariant-loop-frame : goal.invariant-loop-frame
invariant-loop-frame l = l.failed + count_failed (drop l.frame-index l.frames) ≡ count_failed l.frames
