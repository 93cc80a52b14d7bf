use Rattle.std.proofs.Common.{ℕ, ◌<◌, ◌∙◌, Some, arith, length, ap}
use Rattle.std.proofs.lemmas.List.{length-set}
use Rattle.asl_run_state.specs.World.{count_of}
use Rattle.asl_explore.specs.declared.sights.Sight.{Sight}
use Rattle.asl_explore.specs.private.Seeing.{noted}
use Rattle.asl_explore.proofs.Listing.{changed-done, changed-left}
use Rattle.asl_explore.proofs.sights.note.Goals as goal

pub loop-number-preserved : goal.loop-number-preserved
loop-number-preserved c =
    let xs = c.loop-number.sights.items in
    let fs = c.args.sights.now.items in
    let i = c.loop-number.number in
    let inv = c.loop-number.invariant in
    let F = λ (n : ℕ) (x : Sight). noted n c.args.looks.now (count_of c.args.world.now.counts (Some n)) x in
    let x = c.index.result.now in
    let y = c.with-sight.result in
    let l : i < length xs = omega (arith, c.args.sights.now.ok.0, inv.many, c.loop-number-test.true, c.len-number-end.ensures) in
    let is = c.with-sight.ensures ∙ ap (λ k. noted i c.args.looks.now k x) c.count.ensures in
    record {
      many = length-set xs i y ∙ inv.many;
      done = changed-done F fs xs i x y inv.many l c.index.ensures is inv.done inv.left;
      left = changed-left F fs xs i x y inv.many l c.index.ensures is inv.left;
    }
