use Rattle.std.proofs.Common.{arith, map, ap, subst}
use Rattle.asl_run_branches.specs.Trees.{Family, branches_of}
use Rattle.asl_run_branches.specs.Orders.{AreInOrder}
use Rattle.asl_run_branches.proofs.Ordering.{AreFamiliesInOrder, one-more, all-of-them, in-order}
use Rattle.asl_run_branches.proofs.frame.Frame.+is_in_order.Goals as goal

pub loop-child-preserved : goal.loop-child-preserved
loop-child-preserved t c =
    one-more c.deref-child-items.result.now c.loop-child.child-index c.child-item.result c.child-item.is c.loop-child-test.true
    (subst (λ (k : Family). AreInOrder (map (λ b. b.place) (branches_of k))) c.get.ensures c.is_in_order.ensures) c.loop-child.invariant

pub returns : goal.returns
returns t c =
    let items = c.deref-child-items.result.now in
    let n = c.loop-child.child-index in
    let all : AreFamiliesInOrder items = all-of-them items n (omega (arith, c.loop-child-test.false)) c.loop-child.invariant in
    in-order c.args.self.now c.self.inside.children.items (ap (λ (f : Family). f.below) c.self.view_is)
    (subst AreFamiliesInOrder c.deref-child-items.ensures.value all)
