use Rattle.std.proofs.Common.{◌≡◌, arith, map, subst, ◌++◌}
use Rattle.asl_run_branches.specs.Trees.{Held, Family}
use Rattle.asl_run_branches.specs.Earliest.{earliest_of, helds_of}
use Rattle.asl_run_branches.proofs.Timing.{entries, entries-begun, entries-more, entries-done}
use Rattle.asl_run_branches.proofs.frame.Frame.+put_earliest.Goals as goal

pub loop-child-init : goal.loop-child-init
loop-child-init t c =
    let h : Held = record { place = c.self.inside.place; current = c.self.inside.held; at = c.self.inside.at; under = c.self.inside.under } in
    entries-begun c.args.last c.args.self.now h c.self.inside.children.items c.deref-child-items.result.now c.args.out.now.items c.push.new.self.items c.in_ok-try_clone.field-0 c.due_from.result c.self.view_is c.deref-child-items.ensures.value c.in_ok-try_clone.ensures c.due_from.ensures c.in_ok-push.ensures.items

pub loop-child-preserved : goal.loop-child-preserved
loop-child-preserved t c =
    let all = c.args.out.now.items ++ map (earliest_of c.args.last) (helds_of c.args.self.now) in
    entries-more c.args.last c.loop-child.child-index c.deref-child-items.result.now c.child-item.result all c.loop-child.out.items c.put_earliest.new.out.items c.child-item.is c.loop-child-test.true
    (subst (λ (k : Family). c.put_earliest.new.out.items ≡ c.loop-child.out.items ++ entries c.args.last k) c.get.ensures c.in_ok-put_earliest.ensures) c.loop-child.invariant

pub returns : goal.returns
returns t c =
    let all = c.args.out.now.items ++ map (earliest_of c.args.last) (helds_of c.args.self.now) in
    entries-done c.args.last c.loop-child.child-index c.deref-child-items.result.now all c.loop-child.out.items (omega (arith, c.loop-child-test.false)) c.loop-child.invariant
