use Rattle.std.proofs.Common.{◌≡◌, ◌∙◌, true, false, sym, subst, arith}
use Rattle.std.specs.Prelude.{IfSome}
use Rattle.std.specs.List.{All}
use Rattle.asl_run_input.specs.declared.setup.Setup.{Setup}
use Rattle.asl_exec.specs.Probes.{setup_of}
use Rattle.asl_explore.specs.Ends.{AreEndsIn}
use Rattle.asl_explore.specs.Judging.{Accepts, IsRefused, IsVerdict}
use Rattle.asl_explore.specs.Searches.{worlds_of}
use Rattle.asl_explore.proofs.Ends.{all-end-in}
use Rattle.asl_explore.proofs.Verdicts.{one-more, all-judged}
use Rattle.asl_explore.proofs.judging.judge_all.Goals as goal
use Rattle.asl_explore.proofs.judging.judge_all.Goals.{then-whole, else-whole}

pub loop-judge-preserved : goal.loop-judge-preserved
loop-judge-preserved g c =
    let s = setup_of c.args.probe.now in
    let o = c.args.orders in
    let ns = c.args.nodes.now in
    let judge = c.judge-item.result in
    let inv = c.loop-judge.invariant in
    let verdict = c.in_ok-verdict.verdict in
    record {
      setup = c.judge_worlds.ensures.setup ∙ inv.setup;
      judged = λ os known h.
          let both : known ≡ true → (c.loop-judge.whole ≡ true) × (verdict.complete ≡ true) = λ k.
          let whole = (h k).0 in
          elim c.if-whole.branch [ then-whole b ↦ (b.if-whole.true, sym b.whole-is ∙ whole) | else-whole b ↦ let e : true ≡ false = sym whole ∙ b.whole-is ∙ b.if-whole.false in absurd (cc) ] in
          let own : IsVerdict (g.J.Judge.accepts judge s) known o s verdict.refused = record {
            refused = subst (λ (z : Setup). IfSome verdict.refused (IsRefused (g.J.Judge.accepts judge z) o z)) inv.setup c.in_ok-verdict.ensures.refused;
            accepted = λ k none. all-end-in (Accepts (g.J.Judge.accepts judge s)) o s (worlds_of ns) os (h k).1 (subst (λ (z : Setup). All (AreEndsIn (Accepts (g.J.Judge.accepts judge z)) o z) (worlds_of ns)) inv.setup (c.in_ok-verdict.ensures.accepted none (both k).1));
          } in
          one-more g.J.Judge.accepts known o s c.args.judges.now c.loop-judge.list.items c.push.new.self.items c.loop-judge.judge-index judge verdict.refused c.loop-judge-test.true c.judge-item.is c.in_ok-push.ensures.items own
          (inv.judged os known (λ k. ((both k).0, (h k).1)));
    }

pub returns-clause-judged : goal.returns-clause-judged
returns-clause-judged g c os known h =
    all-judged g.J.Judge.accepts known c.args.orders (setup_of c.args.probe.now) c.args.judges.now c.loop-judge.list.items c.loop-judge.judge-index (omega (arith, c.loop-judge-test.false, c.loop-judge.auto.judge-index-end)) (c.loop-judge.invariant.judged os known h)
