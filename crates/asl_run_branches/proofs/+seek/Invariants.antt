use Rattle.std.proofs.Common.{◌≡◌, ◌≤◌, ◌+◌, ◌*◌, false, take, drop, length, option_map}
use Rattle.std.specs.Prelude.{is_some}
use Rattle.asl_run_branches.specs.Trees.{below_of, count_undone, count_failed}
use Rattle.asl_run_branches.specs.Turns.{sooner, turn_of}
use Rattle.asl_run_branches.specs.private.Walking.{soonest_of}
use Rattle.asl_run_branches.proofs.+seek.Given as goal

abbrev pub decreases-frame::Frame::seek : goal.decreases-frame::Frame::seek
decreases-frame::Frame::seek g l = 3 * length l.self.now.below + 2

abbrev pub decreases-frame::Frame::seek_below : goal.decreases-frame::Frame::seek_below
decreases-frame::Frame::seek_below g l = 3 * length l.self.now.below + 1

abbrev pub decreases-turns::walk : goal.decreases-turns::walk
decreases-turns::walk g l = 3 * length (below_of 0 l.children.now)

-- the first turn so far, with those of the children that are left, is the first of all
abbrev pub invariant-turns::walk-loop-child : goal.invariant-turns::walk-loop-child
invariant-turns::walk-loop-child g l = record {
  whole : sooner (option_map turn_of l.first) (soonest_of (g.L.Limits.limits l.limits) l.now l.limit l.failed l.elders (drop l.child-index l.children)) ≡ soonest_of (g.L.Limits.limits l.limits) l.now l.limit l.failed l.undone l.children;
  few : l.elders ≤ l.undone + l.child-index;
  counted : l.elders ≡ l.undone + count_undone (take l.child-index l.children);
  goes : count_failed l.children ≡ 0 → l.failed ≡ 0 → l.undone ≡ 0 → is_some l.first ≡ false → l.elders ≡ 0;
}
