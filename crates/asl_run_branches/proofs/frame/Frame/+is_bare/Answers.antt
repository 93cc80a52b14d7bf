use Rattle.std.proofs.Common.{◌≡◌, List, arith, map, take, length, ap, subst}
use Rattle.asl_run_branches.specs.Trees.{Held, Family}
use Rattle.asl_run_branches.specs.Bare.{bare_family}
use Rattle.asl_run_branches.proofs.Copying.{bare-more, is-bare}
use Rattle.asl_run_branches.proofs.frame.Frame.+is_bare.Goals as goal

pub loop-child-preserved : goal.loop-child-preserved
loop-child-preserved t c =
    bare-more c.deref-child-items.result.now c.loop-child.child-index c.child-item.result c.child-item.is c.loop-child-test.true
    (subst (λ (k : Family). bare_family k ≡ k) c.get.ensures (c.is_bare.ensures c.if-not-is_bare.false)) c.loop-child.invariant

pub returns : goal.returns
returns t c e =
    let h : Held = record { place = c.self.inside.place; current = c.self.inside.held; at = c.self.inside.at; under = c.self.inside.under } in
    let items = c.deref-child-items.result.now in
    let n = c.loop-child.child-index in
    let at : 0 ≡ c.self.inside.at = omega (arith, c.if-self-gt0.false) in
    let under : 0 ≡ c.self.inside.under = omega (arith, c.if-self-gt0-2.false) in
    is-bare c.args.self.now h c.self.inside.children.items n c.self.view_is
    (λ i. record { place = c.self.inside.place; current = c.self.inside.held; at = at i; under = under i })
    (omega (arith, c.loop-child-test.false, ap length c.deref-child-items.ensures.value))
    (subst (λ (xs : List Family). map bare_family (take n xs) ≡ take n xs) c.deref-child-items.ensures.value c.loop-child.invariant)
