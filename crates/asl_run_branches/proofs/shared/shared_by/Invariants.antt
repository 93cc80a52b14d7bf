use Rattle.std.proofs.Common.{◌≡◌, take}
use Rattle.asl_run_branches.proofs.shared.shared_by.Given as goal

abbrev pub invariant-loop-frame : goal.invariant-loop-frame
invariant-loop-frame l = l.shared.items ≡ take l.frame-index l.frames
