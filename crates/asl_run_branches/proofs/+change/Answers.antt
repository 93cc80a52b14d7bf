use Rattle.std.proofs.Common.{List, subst, arith, ◌≡◌, ◌≤◌, ◌<◌, length, ap, sym, ◌∙◌, refl, slice_get, Some}
use Rattle.asl_step.specs.Records.{is_done, is_failed}
use Rattle.asl_run_branches.specs.private.Resting.{IsResting}
use Rattle.asl_run_branches.specs.Trees.{Held, Family}
use Rattle.asl_run_branches.specs.Changes.{Litter, change}
use Rattle.asl_run_branches.proofs.Counts.{undone-one, failed-one, undone-few, failed-few, get-at, counted-set}
use Rattle.asl_run_branches.proofs.Reading.{nflat}
use Rattle.asl_run_branches.proofs.Changing.{after-child, after-none, here-kept, here-gone}
use Rattle.asl_run_branches.proofs.+change.Goals as goal

pub frame::Frame::change-returns-then-not-keeps-clause-ok :
    goal.frame::Frame::change-returns-then-not-keeps-clause-ok
frame::Frame::change-returns-then-not-keeps-clause-ok t c =
    let h : Held = record { place = c.self.inside.place; current = c.self.inside.held; at = c.self.inside.at; under = c.self.inside.under } in
    rw (c.marked-under.ensures, c.marked-self-inside.ensures)
    (here-gone c.args.self.now h c.self.inside.children.items c.offspring.inside.frames.items c.args.place.now (change c.args.after c.args.told c.args.offspring) c.self.view_is (c.in_default.ensures.none refl)
    (ap (λ (z : Litter). z.keeps) (sym c.offspring.view_is) ∙ c.if-not-keeps.true)
    (ap (λ (z : Litter). nflat 0 z.kids) (sym c.offspring.view_is)))

pub frame::Frame::change-returns-else-not-keeps-clause-ok :
    goal.frame::Frame::change-returns-else-not-keeps-clause-ok
frame::Frame::change-returns-else-not-keeps-clause-ok t c =
    let h : Held = record { place = c.self.inside.place; current = c.self.inside.held; at = c.self.inside.at; under = c.self.inside.under } in
    rw (c.marked-under.ensures, c.marked-self-inside.ensures)
    (here-kept c.args.self.now h c.self.inside.children.items c.args.place.now (change c.args.after c.args.told c.args.offspring) c.self.view_is (c.in_default.ensures.none refl)
    (ap (λ (z : Litter). z.keeps) (sym c.offspring.view_is) ∙ c.if-not-keeps.false)
    (ap (λ (z : Litter). nflat 0 z.kids) (sym c.offspring.view_is) ∙ ap (nflat 0) (c.offspring.invariant.none c.if-not-keeps.false)))

pub frame::Frame::change-returns-then-number-as_slice-clause-ok :
    goal.frame::Frame::change-returns-then-number-as_slice-clause-ok
frame::Frame::change-returns-then-number-as_slice-clause-ok t c =
    let h : Held = record { place = c.self.inside.place; current = c.self.inside.held; at = c.self.inside.at; under = c.self.inside.under } in
    let le : length c.self.inside.children.items ≤ c.in-Some.number = omega (arith, c.if-number-as_slice.true, ap length c.as_slice.ensures.value) in
    rw c.marked-under.ensures (after-none c.args.self.now h c.self.inside.children.items c.args.place.now c.in-Some.number c.in-Some.deeper.now (change c.args.after c.args.told c.args.offspring) c.self.view_is c.in-Some.ensures.some le)

pub frame::Frame::change-adjusted-self-inside-requires-clause-counted :
    goal.frame::Frame::change-adjusted-self-inside-requires-clause-counted
frame::Frame::change-adjusted-self-inside-requires-clause-counted t c =
    let ks = c.self.inside.children.items in
    let k = c.index_mut-child.result.now in
    let lt : c.in-Some.number < length ks = omega (arith, c.if-number-as_slice.false, ap length c.as_slice.ensures.value) in
    let g : slice_get ks c.in-Some.number ≡ Some k = get-at ks c.in-Some.number k c.index_mut-child.ensures.value lt in
    rw (c.is_done-was_done.ensures, c.held.ensures, c.get.ensures, c.self.invariant.counts.undone_is) (undone-one ks c.in-Some.number k g)

pub frame::Frame::change-adjusted-self-inside-requires-clause-few :
    goal.frame::Frame::change-adjusted-self-inside-requires-clause-few
frame::Frame::change-adjusted-self-inside-requires-clause-few t c = omega (arith, undone-few c.self.inside.children.items, c.self.invariant.counts.undone_is, c.as_slice.type_inv, ap length c.as_slice.ensures.value)

pub frame::Frame::change-adjusted-self-inside-requires-2-clause-counted :
    goal.frame::Frame::change-adjusted-self-inside-requires-2-clause-counted
frame::Frame::change-adjusted-self-inside-requires-2-clause-counted t c =
    let ks = c.self.inside.children.items in
    let k = c.index_mut-child.result.now in
    let lt : c.in-Some.number < length ks = omega (arith, c.if-number-as_slice.false, ap length c.as_slice.ensures.value) in
    let g : slice_get ks c.in-Some.number ≡ Some k = get-at ks c.in-Some.number k c.index_mut-child.ensures.value lt in
    rw (c.is_failed-was_failed.ensures, c.held-2.ensures, c.get-2.ensures, c.self.invariant.counts.failed_is) (failed-one ks c.in-Some.number k g)

pub frame::Frame::change-adjusted-self-inside-requires-2-clause-few :
    goal.frame::Frame::change-adjusted-self-inside-requires-2-clause-few
frame::Frame::change-adjusted-self-inside-requires-2-clause-few t c = omega (arith, failed-few c.self.inside.children.items, c.self.invariant.counts.failed_is, c.as_slice.type_inv, ap length c.as_slice.ensures.value)

pub frame::Frame::change-invariant_of-self-2 : goal.frame::Frame::change-invariant_of-self-2
frame::Frame::change-invariant_of-self-2 t c =
    let ks = c.self.inside.children.items in
    let k = c.index_mut-child.result.now in
    let lt : c.in-Some.number < length ks = omega (arith, c.if-number-as_slice.false, ap length c.as_slice.ensures.value) in
    let g : slice_get ks c.in-Some.number ≡ Some k = get-at ks c.in-Some.number k c.index_mut-child.ensures.value lt in
    let done = λ (f : Family). is_done f.head.current in
    let failed = λ (f : Family). is_failed f.head.current in
    record {
      counts = counted-set ks c.in-Some.number k c.change.new.self c.self.inside.undone c.self.inside.failed c.adjusted-self-inside.result c.adjusted-self-inside-2.result c.is_done-was_done.result c.is_done-is_done.result c.is_failed-was_failed.result c.is_failed-is_failed.result c.self.invariant.counts g (c.is_done-was_done.ensures ∙ ap is_done c.held.ensures ∙ ap done c.get.ensures) (c.is_done-is_done.ensures ∙ ap is_done c.held-3.ensures ∙ ap done c.get-3.ensures) (c.is_failed-was_failed.ensures ∙ ap is_failed c.held-2.ensures ∙ ap failed c.get-2.ensures) (c.is_failed-is_failed.ensures ∙ ap is_failed c.held-4.ensures ∙ ap failed c.get-4.ensures) c.adjusted-self-inside.ensures c.adjusted-self-inside-2.ensures;
      resting = subst (λ (z : List Family). IsResting c.extended-self-inside.result z) c.deref.ensures.value c.extended-self-inside.ensures;
    }

pub frame::Frame::change-returns-clause-ok : goal.frame::Frame::change-returns-clause-ok
frame::Frame::change-returns-clause-ok t c =
    let ks = c.self.inside.children.items in
    let k = c.index_mut-child.result.now in
    let lt : c.in-Some.number < length ks = omega (arith, c.if-number-as_slice.false, ap length c.as_slice.ensures.value) in
    let g : slice_get ks c.in-Some.number ≡ Some k = get-at ks c.in-Some.number k c.index_mut-child.ensures.value lt in
    let h : Held = record { place = c.self.inside.place; current = c.self.inside.held; at = c.self.inside.at; under = c.self.inside.under } in
    rw c.marked-under.ensures (after-child c.args.self.now h ks c.args.place.now c.in-Some.number c.in-Some.deeper.now (change c.args.after c.args.told c.args.offspring) k c.change.new.self c.self.view_is c.in-Some.ensures.some g c.in_ok-change.ensures.ok)
