use Rattle.std.proofs.Common.{◌<◌, ◌∙◌, Some, ap, sym, length, arith}
use Rattle.asl_step.specs.Records.{is_done}
use Rattle.asl_run_branches.proofs.Counts.{get-at}
use Rattle.asl_run_branches.proofs.Keeping.{undone-most, known-more}
use Rattle.asl_run_branches.proofs.resting.Resting.extended.Goals as goal

pub with-resting-requires-clause-ordered : goal.with-resting-requires-clause-ordered
with-resting-requires-clause-ordered c = undone-most c.loop-resting.resting c.args.children.now c.loop-resting.invariant

pub loop-resting-preserved : goal.loop-resting-preserved
loop-resting-preserved c =
    let l : c.loop-resting.resting.idle < length c.args.children.now = omega arith in
    let k = c.get-child.result.now in
    let g = get-at c.args.children.now c.loop-resting.resting.idle c.index-children-resting.result c.index-children-resting.is l ∙ ap Some (sym c.get-child.ensures) in
    let e = c.with-resting.ensures in
    known-more c.loop-resting.resting c.with-resting.result c.args.children.now k c.in-Some.until c.is_done.result c.loop-resting.invariant g c.in-Some.ensures l (c.is_done.ensures ∙ ap is_done c.held.ensures) e.over e.idle e.undone e.until
