use Rattle.std.proofs.Common.{◌<◌, ◌∙◌, sym, subst, arith, length}
use Rattle.std.proofs.lemmas.List.{length-set}
use Rattle.asl_explore.specs.Calls.{ComesWith, IsIn}
use Rattle.asl_explore.proofs.Bounding.{both-with, each-set}
use Rattle.asl_explore.proofs.Tallies.{wider-more, in-more}
use Rattle.asl_explore.proofs.calls.Calls.widen.Goals as goal

pub loop-number-preserved : goal.loop-number-preserved
loop-number-preserved c =
    let bs = c.loop-number.self.bounds.items in
    let i = c.loop-number.number in
    let x = c.index.result.now in
    let b = c.with-bounds.result in
    let inv = c.loop-number.invariant in
    let l : i < length bs = omega (arith, c.args.self.now.bounds.ok.0, inv.same, c.loop-number-test.true, c.len-number-end.ensures) in
    record {
      same = length-set bs i b ∙ inv.same;
      keeps = wider-more c.args.self.now.bounds.items bs i x b inv.keeps l c.index.ensures c.with-bounds.ensures.keeps;
      met = λ o s outcome came before.
          each-set (ComesWith o s outcome) bs i x b l c.index.ensures
          (both-with (ComesWith o s outcome i) x b c.count-count.result c.with-bounds.ensures.fits c.with-bounds.ensures.low c.with-bounds.ensures.has.low c.with-bounds.ensures.high c.with-bounds.ensures.has.high
          (subst (ComesWith o s outcome i) (sym c.count-count.ensures) (came i)))
          (inv.met o s outcome came before);
      has = in-more bs c.args.world.now.counts i x b inv.has l c.index.ensures c.with-bounds.ensures.keeps (subst (IsIn b) c.count-count.ensures c.with-bounds.ensures.has);
    }
