use Rattle.std.proofs.Common.{◌≡◌, ◌+◌, drop}
use Rattle.asl_run_branches.specs.Trees.{count_undone}
use Rattle.asl_run_branches.proofs.offspring.undone_of.Given as goal

abbrev pub invariant-loop-frame : goal.invariant-loop-frame
invariant-loop-frame l = l.undone + count_undone (drop l.frame-index l.frames) ≡ count_undone l.frames
