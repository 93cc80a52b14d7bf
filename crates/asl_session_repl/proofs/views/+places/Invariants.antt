use Rattle.std.proofs.Common.{◌≡◌, ◌+◌, ◌*◌, ◌++◌, length, drop}
use Rattle.std.specs.Prelude.{string_bytes}
use Rattle.std.specs.List.{flat_map}
use Rattle.asl_run_branches.specs.Trees.{below_of}
use Rattle.asl_session_repl.specs.Views.{helds_of, held_lines}
use Rattle.asl_session_repl.proofs.views.+places.Given as goal

abbrev pub invariant-put_frames-loop-frame : goal.invariant-put_frames-loop-frame
invariant-put_frames-loop-frame l = string_bytes l.out ++ held_lines l.session (flat_map helds_of (drop l.frame-index l.frames)) ≡ string_bytes l.fn.out ++ held_lines l.session (flat_map helds_of l.frames)

-- the branches under a frame are fewer than those of all its siblings and under them
abbrev pub decreases-put_frame : goal.decreases-put_frame
decreases-put_frame l = 2 * length l.frame.now.below + 1

abbrev pub decreases-put_frames : goal.decreases-put_frames
decreases-put_frames l = 2 * length (below_of 0 l.frames.now)
