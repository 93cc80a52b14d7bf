use Rattle.std.proofs.Common.{◌≡◌, ◌+◌, ◌*◌, ◌++◌, drop, length, string_bytes}
use Rattle.asl_run_branches.specs.Trees.{below_of}
use Rattle.asl_trace.specs.private.Walked.{lines_in}
use Rattle.asl_trace.proofs.stopping.+frames.Given as goal

-- the branches under a frame are fewer than those of all its siblings and under them
abbrev pub decreases-put_stopped_at : goal.decreases-put_stopped_at
decreases-put_stopped_at l = 2 * length l.frame.now.below + 1

abbrev pub decreases-put_all_stopped : goal.decreases-put_all_stopped
decreases-put_all_stopped l = 2 * length (below_of 0 l.frames.now)

-- the lines so far, then those of the rest, are those of all
abbrev pub invariant-put_all_stopped-loop-frame : goal.invariant-put_all_stopped-loop-frame
invariant-put_all_stopped-loop-frame l = string_bytes l.out ++ lines_in l.start l.now (drop l.frame-index l.frames) ≡ string_bytes l.fn.out ++ lines_in l.start l.now l.frames
