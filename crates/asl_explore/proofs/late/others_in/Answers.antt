use Rattle.std.proofs.Common.{sym, subst, arith}
use Rattle.asl_explore.specs.declared.found.Found.{Found}
use Rattle.std.specs.List.{Contains}
use Rattle.asl_explore.specs.Searches.{IsMissing, outcomes_of}
use Rattle.asl_explore.proofs.Lateness.{numbered-more, listed-more, listed-not}
use Rattle.asl_explore.proofs.late.others_in.Goals as goal
use Rattle.asl_explore.proofs.late.others_in.Goals.{then-not-branch+in_ok-push, else-not-branch}

pub loop-index-preserved : goal.loop-index-preserved
loop-index-preserved c =
    let gs = c.args.prompt.now.list.items in
    let fs = c.args.found.now in
    let ns = c.loop-index.others.items in
    let i = c.loop-index.index in
    let inv = c.loop-index.invariant in
    elim c.if-not-branch.branch [
      | then-not-branch+in_ok-push w ↦ rw (w.others-is, w.in_ok-push.ensures.items) (record {
        others = numbered-more (IsMissing gs) fs ns i c.index-found-index.result c.loop-index-test.true c.index-found-index.is
            (subst (λ (f : Found). IsMissing gs f.outcome) (sym c.index-found-index.is) (c.in_ok-has.ensures.new w.if-not-branch.true)) inv.others;
        all = listed-more gs fs ns i inv.all;
      })
      | else-not-branch w ↦ rw w.others-is (record {
        others = inv.others;
        all = listed-not gs fs ns i c.index-found-index.result c.loop-index-test.true c.index-found-index.is
            (subst (λ (f : Found). Contains (outcomes_of gs) f.outcome) (sym c.index-found-index.is) (c.in_ok-has.ensures.there w.if-not-branch.false)) inv.all;
      })
    ]

pub returns-clause-all : goal.returns-clause-all
returns-clause-all c i l missing = c.loop-index.invariant.all i (omega (arith, l, c.loop-index-test.false)) missing
