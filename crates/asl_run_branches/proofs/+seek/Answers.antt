use Rattle.std.proofs.Common.{Bool, not, ◌≡◌, ◌∙◌, ◌+◌, ◌-◌, ◌∷◌, Some, ap, sym, refl, arith, cond, drop, length, option_map}
use Rattle.std.specs.Prelude.{nat_lt, slice_get}
use Rattle.std.proofs.lemmas.List.{drop_more}
use Rattle.asl_step.specs.Records.{is_failed, is_done}
use Rattle.asl_run_branches.specs.Trees.{Held, Family, one_if}
use Rattle.asl_run_branches.specs.Turns.{limit_of, comes_first, soonest, turn_of}
use Rattle.asl_run_branches.specs.private.Walking.{dues_below}
use Rattle.asl_run_branches.proofs.Turning.{comes-now, late-of, late-soonest, one-more}
use Rattle.asl_run_branches.proofs.Skipping.{same-first, over-skipped, idle-then-active, idle-is, idle-late, skips-idle, takes-first, takes-second, below-part, part-length, below-child}
use Rattle.asl_run_branches.proofs.Keeping.{undone-most}
use Rattle.asl_run_branches.proofs.Counts.{get-at, one-most, undone-more}
use Rattle.asl_run_branches.proofs.Going.{mapped, other-some, goes-more, over-goes, active-goes}
use Rattle.asl_run_branches.proofs.+seek.Goals.{turns::walk-then-comes_first, turns::walk-else-comes_first}
use Rattle.asl_run_branches.proofs.+seek.Goals as goal

pub frame::Frame::seek-returns-then-is_now-clause-turn : goal.frame::Frame::seek-returns-then-is_now-clause-turn
frame::Frame::seek-returns-then-is_now-clause-turn g t c =
    let both = c.is_now.ensures c.if-is_now.true in
    let limits = g.L.Limits.limits c.args.limits.now in
    rw c.if-stopped.false (comes-now c.args.now turn_of c.own_turn-own.result _ _ both.0 both.1 (late-soonest c.args.now (dues_below limits c.args.self.now)) (same-first (option_map turn_of c.own_turn-own.result) _ (soonest c.args.now (dues_below limits c.args.self.now)) c.own_turn-own.ensures))

pub frame::Frame::seek_below-walk-requires : goal.frame::Frame::seek_below-walk-requires
frame::Frame::seek_below-walk-requires g t c =
    let h : Held = record { place = c.self.inside.place; current = c.self.inside.held; at = c.self.inside.at; under = c.self.inside.under } in
    let r = c.self.inside.resting in
    let ks = c.self.inside.children.items in
    let items = c.deref.result.now in
    let less = below-part (length items - r.over) r.over c.args.self.now h ks items c.self.view_is c.deref.ensures.value in
    let same = ap length c.deref.ensures.value in
    let q = c.self.invariant.resting in
    let few = part-length (length items - r.over) r.over items (omega (arith, same, q.within, q.ordered)) in
    λ κs w. (omega (arith, less), (w, omega (arith, few, c.deref.type_inv)))

pub frame::Frame::seek_below-returns-then-millis-clause-turn : goal.frame::Frame::seek_below-returns-then-millis-clause-turn
frame::Frame::seek_below-returns-then-millis-clause-turn g t c =
    let h : Held = record { place = c.self.inside.place; current = c.self.inside.held; at = c.self.inside.at; under = c.self.inside.under } in
    let limits = g.L.Limits.limits c.args.limits.now in
    over-skipped limits c.args.now c.limit_in-limit.result c.self.inside.failed c.args.self.now h c.self.inside.children.items c.deref.result.now c.self.inside.resting _ c.self.view_is c.deref.ensures.value c.self.invariant.resting (c.limit_in-limit.ensures ∙ ap (limit_of limits) c.map_in.ensures) c.self.invariant.counts.failed_is c.walk.ensures.turn

pub frame::Frame::seek_below-returns-then-millis-clause-goes : goal.frame::Frame::seek_below-returns-then-millis-clause-goes
frame::Frame::seek_below-returns-then-millis-clause-goes g t c busy =
    let h : Held = record { place = c.self.inside.place; current = c.self.inside.held; at = c.self.inside.at; under = c.self.inside.under } in
    over-goes c.self.inside.failed c.args.self.now h c.self.inside.children.items c.deref.result.now c.self.inside.resting _ c.self.view_is c.deref.ensures.value c.self.invariant.resting c.self.invariant.counts.failed_is busy c.walk.ensures.goes

pub frame::Frame::seek_below-walk-active-requires : goal.frame::Frame::seek_below-walk-active-requires
frame::Frame::seek_below-walk-active-requires g t c =
    let h : Held = record { place = c.self.inside.place; current = c.self.inside.held; at = c.self.inside.at; under = c.self.inside.under } in
    let r = c.self.inside.resting in
    let ks = c.self.inside.children.items in
    let items = c.deref-2.result.now in
    let less = below-part (length items - r.idle) r.idle c.args.self.now h ks items c.self.view_is c.deref-2.ensures.value in
    let same = ap length c.deref-2.ensures.value in
    let q = c.self.invariant.resting in
    let few = part-length (length items - r.idle) r.idle items (omega (arith, same, q.within, q.ordered)) in
    λ κs w. (omega (arith, less), (w, omega (arith, few, c.deref-2.type_inv, undone-most r ks q)))

pub frame::Frame::seek_below-returns-then-is_now-clause-turn : goal.frame::Frame::seek_below-returns-then-is_now-clause-turn
frame::Frame::seek_below-returns-then-is_now-clause-turn g t c =
    let h : Held = record { place = c.self.inside.place; current = c.self.inside.held; at = c.self.inside.at; under = c.self.inside.under } in
    let limits = g.L.Limits.limits c.args.limits.now in
    let both = c.is_now.ensures c.if-is_now.true in
    let whole = idle-then-active limits c.args.now c.limit_in-limit.result c.self.inside.failed c.args.self.now h c.self.inside.children.items c.deref-2.result.now c.self.inside.resting _ c.self.view_is c.deref-2.ensures.value c.self.invariant.resting (c.limit_in-limit.ensures ∙ ap (limit_of limits) c.map_in.ensures) c.self.invariant.counts.failed_is c.walk-active.ensures.turn in
    skips-idle c.args.now turn_of _ _ c.walk-active.result both.0 both.1 (idle-late limits c.args.now c.limit_in-limit.result c.self.inside.failed c.self.inside.children.items c.self.inside.resting (omega (arith, c.if-millis.false, c.millis.ensures.value, c.millis-2.ensures.value)) c.self.invariant.resting) whole

pub frame::Frame::seek_below-walk-idle-requires : goal.frame::Frame::seek_below-walk-idle-requires
frame::Frame::seek_below-walk-idle-requires g t c =
    let h : Held = record { place = c.self.inside.place; current = c.self.inside.held; at = c.self.inside.at; under = c.self.inside.under } in
    let r = c.self.inside.resting in
    let ks = c.self.inside.children.items in
    let items = c.deref-3.result.now in
    let less = below-part (r.idle - r.over) r.over c.args.self.now h ks items c.self.view_is c.deref-3.ensures.value in
    let same = ap length c.deref-3.ensures.value in
    let q = c.self.invariant.resting in
    let few = part-length (r.idle - r.over) r.over items (omega (arith, same, q.within, q.ordered)) in
    λ κs w. (omega (arith, less), (w, omega (arith, few, c.deref-3.type_inv)))

pub frame::Frame::seek_below-returns-then-comes_first-clause-turn : goal.frame::Frame::seek_below-returns-then-comes_first-clause-turn
frame::Frame::seek_below-returns-then-comes_first-clause-turn g t c =
    let h : Held = record { place = c.self.inside.place; current = c.self.inside.held; at = c.self.inside.at; under = c.self.inside.under } in
    let limits = g.L.Limits.limits c.args.limits.now in
    let whole = idle-then-active limits c.args.now c.limit_in-limit.result c.self.inside.failed c.args.self.now h c.self.inside.children.items c.deref-2.result.now c.self.inside.resting _ c.self.view_is c.deref-2.ensures.value c.self.invariant.resting (c.limit_in-limit.ensures ∙ ap (limit_of limits) c.map_in.ensures) c.self.invariant.counts.failed_is c.walk-active.ensures.turn in
    let both = idle-is limits c.args.now c.limit_in-limit.result c.self.inside.failed c.self.inside.children.items c.deref-3.result.now c.self.inside.resting (option_map turn_of c.walk-idle.result) (option_map turn_of c.walk-active.result) _ c.deref-3.ensures.value c.self.invariant.resting c.walk-idle.ensures.turn whole in
    takes-second _ _ _ c.comes_first.result (sym c.comes_first.ensures) c.if-comes_first.true both

pub frame::Frame::seek_below-returns-clause-turn : goal.frame::Frame::seek_below-returns-clause-turn
frame::Frame::seek_below-returns-clause-turn g t c =
    let h : Held = record { place = c.self.inside.place; current = c.self.inside.held; at = c.self.inside.at; under = c.self.inside.under } in
    let limits = g.L.Limits.limits c.args.limits.now in
    let whole = idle-then-active limits c.args.now c.limit_in-limit.result c.self.inside.failed c.args.self.now h c.self.inside.children.items c.deref-2.result.now c.self.inside.resting _ c.self.view_is c.deref-2.ensures.value c.self.invariant.resting (c.limit_in-limit.ensures ∙ ap (limit_of limits) c.map_in.ensures) c.self.invariant.counts.failed_is c.walk-active.ensures.turn in
    let both = idle-is limits c.args.now c.limit_in-limit.result c.self.inside.failed c.self.inside.children.items c.deref-3.result.now c.self.inside.resting (option_map turn_of c.walk-idle.result) (option_map turn_of c.walk-active.result) _ c.deref-3.ensures.value c.self.invariant.resting c.walk-idle.ensures.turn whole in
    takes-first _ _ _ c.comes_first.result (sym c.comes_first.ensures) c.if-comes_first.false both

pub frame::Frame::seek_below-returns-clause-goes : goal.frame::Frame::seek_below-returns-clause-goes
frame::Frame::seek_below-returns-clause-goes g t c busy =
    let h : Held = record { place = c.self.inside.place; current = c.self.inside.held; at = c.self.inside.at; under = c.self.inside.under } in
    let active = active-goes c.self.inside.failed c.args.self.now h c.self.inside.children.items c.deref-3.result.now c.deref-2.result.now c.self.inside.resting _ _ c.self.view_is c.deref-3.ensures.value c.deref-2.ensures.value c.self.invariant.resting c.self.invariant.counts.failed_is busy c.walk-idle.ensures.goes c.walk-active.ensures.goes in
    other-some turn_of c.walk-active.result c.walk-idle.result c.comes_first.result c.comes_first.ensures c.if-comes_first.false active

pub turns::walk-returns-then-is_now-clause-turn : goal.turns::walk-returns-then-is_now-clause-turn
turns::walk-returns-then-is_now-clause-turn g t c =
    let both = c.is_now.ensures c.if-is_now.true in
    let limits = g.L.Limits.limits c.args.limits.now in
    comes-now c.args.now turn_of c.loop-child.first _ _ both.0 both.1 (late-of limits c.args.now c.args.limit c.args.failed c.loop-child.elders (drop c.loop-child.child-index c.args.children.now)) c.loop-child.invariant.whole

pub turns::walk-seek-turn-requires : goal.turns::walk-seek-turn-requires
turns::walk-seek-turn-requires g t c =
    let k = c.get-child.result.now in
    let less = below-child c.args.children.now c.loop-child.child-index k (get-at c.args.children.now c.loop-child.child-index c.child-item.result c.child-item.is c.loop-child-test.true ∙ ap Some (sym c.get-child.ensures)) in
    λ κs w. (omega (arith, less), w)

pub turns::walk-loop-child-preserved : goal.turns::walk-loop-child-preserved
turns::walk-loop-child-preserved g t c =
    let limits = g.L.Limits.limits c.args.limits.now in
    let i = c.loop-child.child-index in
    let items = c.args.children.now in
    let k = c.get-child.result.now in
    let at : slice_get items i ≡ Some k = get-at items i c.child-item.result c.child-item.is c.loop-child-test.true ∙ ap Some (sym c.get-child.ensures) in
    let next : drop i items ≡ k ∷ drop (i + 1) items = drop_more items i c.child-item.result c.loop-child-test.true ∙ ap (λ (f : Family). f ∷ drop (i + 1) items) (sym c.child-item.is ∙ sym c.get-child.ensures) in
    let stopped : c.others_failed-stopped.result ≡ nat_lt (one_if (is_failed k.head.current)) c.args.failed = c.others_failed-stopped.ensures ∙ ap (λ (b : Bool). nat_lt (one_if b) c.args.failed) (c.is_failed.ensures ∙ ap is_failed c.held.ensures) in
    let more : c.counted-elders.result ≡ c.loop-child.elders + one_if (not (is_done k.head.current)) = c.counted-elders.ensures ∙ ap (λ (b : Bool). c.loop-child.elders + one_if (not b)) (c.is_done.ensures ∙ ap is_done c.held-in-loop-child.ensures) in
    let first : c.if-comes_first.first ≡ cond (comes_first (option_map turn_of c.seek-turn.result) (option_map turn_of c.loop-child.first)) c.seek-turn.result c.loop-child.first = elim c.if-comes_first.branch [
      | turns::walk-then-comes_first w ↦ w.first-is ∙ rw (sym c.comes_first.ensures ∙ w.if-comes_first.true) refl
      | turns::walk-else-comes_first w ↦ w.first-is ∙ rw (sym c.comes_first.ensures ∙ w.if-comes_first.false) refl
    ] in
    record {
      whole = one-more limits c.args.now c.args.limit c.args.failed c.loop-child.elders c.counted-elders.result (option_map turn_of c.loop-child.first) (option_map turn_of c.seek-turn.result) (option_map turn_of c.if-comes_first.first) _ k (drop (i + 1) items) (drop i items) c.others_failed-stopped.result c.is_full.result
          next c.loop-child.invariant.whole c.seek-turn.ensures.turn stopped c.is_full.ensures more (ap (option_map turn_of) first ∙ mapped turn_of (comes_first (option_map turn_of c.seek-turn.result) (option_map turn_of c.loop-child.first)) c.seek-turn.result c.loop-child.first);
      few = omega (arith, more, c.loop-child.invariant.few, one-most (not (is_done k.head.current)));
      counted = omega (arith, more, c.loop-child.invariant.counted, undone-more items i k at);
      goes = λ none failed undone. goes-more turn_of c.args.limit c.args.failed c.loop-child.elders c.counted-elders.result c.loop-child.first c.seek-turn.result c.if-comes_first.first items i k c.others_failed-stopped.result c.is_full.result at stopped c.is_full.ensures more c.seek-turn.ensures.goes first none failed (c.loop-child.invariant.goes none failed undone);
    }
