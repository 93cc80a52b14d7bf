use Rattle.std.proofs.Common.{◌≡◌, ◌∙◌, true, false, sym, subst, arith, get_or}
use Rattle.asl_run_state.specs.Bare.{bare}
use Rattle.asl_run_input.specs.declared.setup.Setup.{Setup}
use Rattle.asl_exec.specs.Steps.{step}
use Rattle.asl_exec.specs.Probes.{setup_of}
use Rattle.asl_run_state.specs.World.{World}
use Rattle.asl_run_branches.specs.declared.earliest.Earliest.{Earliest}
use Rattle.asl_explore.specs.Searches.{is_beyond, outcomes_of}
use Rattle.asl_explore.specs.Calls.{AreMetSoFar, ComesInOrders, IsCounted, IsEndCounted}
use Rattle.asl_explore.proofs.Bounding.{end-comes}
use Rattle.asl_explore.proofs.Ends.{ends-in}
use Rattle.asl_explore.proofs.Tallies.{kept-then, turns-more}
use Rattle.asl_explore.proofs.counting.count_ends.Goals as goal
use Rattle.asl_explore.proofs.counting.count_ends.Goals.{then-whole, else-whole}

pub loop-turn-preserved : goal.loop-turn-preserved
loop-turn-preserved c =
    let s = setup_of c.args.probe.now in
    let os = outcomes_of c.args.found.now in
    let cs = c.loop-turn.calls.items in
    let ds = c.count_turn.new.calls.items in
    let w = bare c.args.world.now in
    let turn = c.turn-item.result in
    let inv = c.loop-turn.invariant in
    record {
      setup = c.count_turn.ensures.setup ∙ inv.setup;
      keeps = kept-then c.args.calls.now.items cs ds inv.keeps c.in_ok-is_counted.ensures.keeps;
      met = λ reached before.
          let turns = c.deref-turn-items.result.now in
          let i = c.loop-turn.turn-index in
          let u : World = c.args.world.now in
          let et = c.deref-turn-items.ensures.value ∙ (rw c.in-Some.is at c.in_ok-turns.ensures.turns) in
          let at : get_or turns i turn ≡ turn = sym c.turn-item.is in
          let least = c.in_ok-bound.ensures.least (c.deref.ensures.value ∙ (rw c.in-Some.is at c.in_ok-turns.ensures.turns)) in
          let comes = λ (inside : is_beyond c.in_ok-bound.bound turn.moment ≡ false).
          subst (λ (e : Earliest). ComesInOrders c.args.orders s (step s w e.place e.moment)) at
          (end-comes c.args.orders s u turns i turn c.in_ok-bound.bound reached (rw c.in-Some.is at c.in_ok-turns.ensures.runs) et c.loop-turn-test.true (c.is_bounded.ensures c.if-not-is_bounded.false) least (subst (λ (e : Earliest). is_beyond c.in_ok-bound.bound e.moment ≡ false) (sym at) inside)) in
          subst (λ (z : Setup). (c.is_beyond-beyond.result ≡ false → ComesInOrders c.args.orders z (step z w turn.place turn.moment)) → AreMetSoFar c.args.orders z os cs → AreMetSoFar c.args.orders z os ds) inv.setup (c.in_ok-is_counted.ensures.met c.args.orders)
          (λ f. comes (sym c.is_beyond-beyond.ensures ∙ f)) (inv.met reached before);
      counted = λ t.
          let both : (c.loop-turn.whole ≡ true) × (c.in_ok-is_counted.is_counted ≡ true) = elim c.if-whole.branch [ then-whole b ↦ (b.if-whole.true, sym b.whole-is ∙ t) | else-whole b ↦ let e : true ≡ false = sym t ∙ b.whole-is ∙ b.if-whole.false in absurd (cc) ] in
          turns-more s c.args.states os cs ds w c.in_ok-bound.bound c.deref-turn-items.result.now c.loop-turn.turn-index turn c.in_ok-is_counted.ensures.keeps (inv.counted both.0) c.loop-turn-test.true c.turn-item.is
          (λ inside. subst (λ (z : Setup). IsEndCounted c.args.states os ds (step z w turn.place turn.moment)) inv.setup (c.in_ok-is_counted.ensures.counted both.1 (c.is_beyond-beyond.ensures ∙ inside)));
    }

pub returns-clause-counted : goal.returns-clause-counted
returns-clause-counted c t =
    let turns = c.deref-turn-items.result.now in
    ends-in (IsCounted c.args.states (outcomes_of c.args.found.now) c.loop-turn.calls.items) c.args.orders (setup_of c.args.probe.now) c.args.world.now c.in_ok-bound.bound turns c.loop-turn.turn-index
    (rw c.in-Some.is at c.in_ok-turns.ensures.runs) (rw c.in-Some.is at c.in_ok-turns.ensures.root) (c.deref-turn-items.ensures.value ∙ (rw c.in-Some.is at c.in_ok-turns.ensures.turns)) (omega (arith, c.loop-turn-test.false)) c.in_ok-bound.ensures.bound (c.loop-turn.invariant.counted t)

pub returns-clause-met : goal.returns-clause-met
returns-clause-met c = c.loop-turn.invariant.met
