use Rattle.std.proofs.Common.{◌+◌, ◌*◌, length}
use Rattle.asl_run_branches.proofs.+change.Given as goal

-- a frame hands a shorter place to its child, and a shared frame its own place to the frame
abbrev pub decreases-frame::Frame::change : goal.decreases-frame::Frame::change
decreases-frame::Frame::change l = 2 * length l.place.now

abbrev pub decreases-shared::SharedFrame::change : goal.decreases-shared::SharedFrame::change
decreases-shared::SharedFrame::change l = 2 * length l.place.now + 1
