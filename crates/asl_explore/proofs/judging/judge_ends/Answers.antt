use Rattle.std.proofs.Common.{◌≡◌, ◌∙◌, true, false, sym, subst, arith}
use Rattle.std.specs.Prelude.{is_none}
use Rattle.std.proofs.lemmas.List.{get_or_read}
use Rattle.std.proofs.lemmas.List.Elements.{AllWithin-more}
use Rattle.asl_run_state.specs.Bare.{bare}
use Rattle.asl_run_input.specs.declared.setup.Setup.{Setup}
use Rattle.asl_exec.specs.Steps.{step}
use Rattle.asl_exec.specs.Probes.{setup_of}
use Rattle.asl_explore.specs.Ends.{EndsIn}
use Rattle.asl_explore.specs.Judging.{Accepts}
use Rattle.asl_explore.proofs.Ends.{IsTurnIn, ends-in}
use Rattle.asl_explore.proofs.Verdicts.{none-there}
use Rattle.asl_explore.proofs.judging.judge_ends.Goals as goal
use Rattle.asl_explore.proofs.judging.judge_ends.Goals.{then-complete, else-complete}

pub loop-turn-preserved : goal.loop-turn-preserved
loop-turn-preserved g c =
    let s = setup_of c.args.probe.now in
    let j = c.args.judge.now in
    let w = bare c.args.world.now in
    let turn = c.turn-item.result in
    let turns = c.deref-turn-items.result.now in
    let i = c.loop-turn.turn-index in
    let inv = c.loop-turn.invariant in
    let verdict = c.in_ok-verdict.verdict in
    record {
      setup = c.judge_turn.ensures.setup ∙ inv.setup;
      accepted = λ t.
          let both : (c.loop-turn.complete ≡ true) × (verdict.complete ≡ true) = elim c.if-complete.branch [ then-complete b ↦ (b.if-complete.true, sym b.complete-is ∙ t) | else-complete b ↦ let e : true ≡ false = sym t ∙ b.complete-is ∙ b.if-complete.false in absurd (cc) ] in
          let none : is_none verdict.refused ≡ true = none-there verdict.refused (sym c.is_some.ensures ∙ c.if-is_some.false) in
          AllWithin-more (IsTurnIn (Accepts (g.J.Judge.accepts j s)) s w c.in_ok-bound.bound) turns 0 i (inv.accepted both.0)
          (λ d. subst (IsTurnIn (Accepts (g.J.Judge.accepts j s)) s w c.in_ok-bound.bound) (get_or_read turns i turn c.loop-turn-test.true c.turn-item.is d)
          (λ inside. subst (λ (z : Setup). EndsIn (Accepts (g.J.Judge.accepts j z)) (step z w turn.place turn.moment)) inv.setup (c.in_ok-verdict.ensures.accepted none both.1 (c.is_beyond-beyond.ensures ∙ inside))));
    }

pub returns-clause-accepted : goal.returns-clause-accepted
returns-clause-accepted g c none complete =
    let turns = c.deref-turn-items.result.now in
    let s = setup_of c.args.probe.now in
    ends-in (Accepts (g.J.Judge.accepts c.args.judge.now s)) c.args.orders s c.args.world.now c.in_ok-bound.bound turns c.loop-turn.turn-index
    (rw c.in-Some.is at c.in_ok-turns.ensures.runs) (rw c.in-Some.is at c.in_ok-turns.ensures.root) (c.deref-turn-items.ensures.value ∙ (rw c.in-Some.is at c.in_ok-turns.ensures.turns)) (omega (arith, c.loop-turn-test.false)) c.in_ok-bound.ensures.bound
    (c.loop-turn.invariant.accepted (sym c.unrefused-2.ensures.complete ∙ complete))
