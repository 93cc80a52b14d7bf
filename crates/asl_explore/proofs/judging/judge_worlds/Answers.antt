use Rattle.std.proofs.Common.{◌≡◌, ◌∙◌, true, false, sym, subst}
use Rattle.std.specs.Prelude.{is_none}
use Rattle.std.proofs.lemmas.List.Elements.{AllWithin-more}
use Rattle.asl_run_state.specs.Bare.{bare}
use Rattle.asl_run_input.specs.declared.setup.Setup.{Setup}
use Rattle.asl_exec.specs.Probes.{setup_of}
use Rattle.asl_explore.specs.Ends.{AreEndsIn}
use Rattle.asl_explore.specs.Judging.{Accepts}
use Rattle.asl_explore.specs.Searches.{worlds_of}
use Rattle.asl_explore.proofs.Expanding.{node-at}
use Rattle.asl_explore.proofs.Verdicts.{none-there}
use Rattle.asl_explore.proofs.judging.judge_worlds.Goals as goal
use Rattle.asl_explore.proofs.judging.judge_worlds.Goals.{then-complete, else-complete}

pub loop-number-preserved : goal.loop-number-preserved
loop-number-preserved g c =
    let s = setup_of c.args.probe.now in
    let o = c.args.orders in
    let j = c.args.judge.now in
    let ns = c.args.nodes.now in
    let i = c.loop-number.number in
    let node = c.index-nodes-number.result in
    let inv = c.loop-number.invariant in
    let verdict = c.in_ok-verdict.verdict in
    record {
      setup = c.judge_ends.ensures.setup ∙ inv.setup;
      accepted = λ t.
          let both : (c.loop-number.complete ≡ true) × (verdict.complete ≡ true) = elim c.if-complete.branch [ then-complete b ↦ (b.if-complete.true, sym b.complete-is ∙ t) | else-complete b ↦ let e : true ≡ false = sym t ∙ b.complete-is ∙ b.if-complete.false in absurd (cc) ] in
          let none : is_none verdict.refused ≡ true = none-there verdict.refused (sym c.is_some.ensures ∙ c.if-is_some.false) in
          let new = subst (λ (z : Setup). AreEndsIn (Accepts (g.J.Judge.accepts j z)) o z (bare node.world)) inv.setup (c.in_ok-verdict.ensures.accepted none both.1) in
          AllWithin-more (AreEndsIn (Accepts (g.J.Judge.accepts j s)) o s) (worlds_of ns) 0 i (inv.accepted both.0)
          (λ d. subst (AreEndsIn (Accepts (g.J.Judge.accepts j s)) o s) (sym (node-at ns i node d c.loop-number-test.true c.index-nodes-number.is)) new);
    }
