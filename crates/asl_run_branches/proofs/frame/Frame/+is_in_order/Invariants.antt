use Rattle.std.proofs.Common.{take}
use Rattle.asl_run_branches.proofs.Ordering.{AreFamiliesInOrder}
use Rattle.asl_run_branches.proofs.frame.Frame.+is_in_order.Given as goal

-- the branches of each child so far are in order
abbrev pub invariant-loop-child : goal.invariant-loop-child
invariant-loop-child l = AreFamiliesInOrder (take l.child-index l.child-items)
