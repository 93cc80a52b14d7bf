use Rattle.std.proofs.Common.{arith, sym, ap, ◌∙◌}
use Rattle.asl_step.specs.Records.{is_done}
use Rattle.asl_run_branches.specs.Trees.{Family}
use Rattle.asl_run_branches.proofs.Counts.{undone-few, undone-here, get-at}
use Rattle.asl_run_branches.proofs.offspring.undone_of.Goals as goal

pub overflow_add-undone : goal.overflow_add-undone
overflow_add-undone c =
    let g = get-at c.args.frames.now c.loop-frame.frame-index c.frame-item.result c.frame-item.is c.loop-frame-test.true in
    let one = undone-here c.args.frames.now c.loop-frame.frame-index c.frame-item.result g (ap (λ (f : Family). is_done f.head.current) (sym c.get.ensures) ∙ ap is_done (sym c.held.ensures) ∙ sym c.if-not-is_done.ensures) in
    omega (arith, one, undone-few c.args.frames.now, c.loop-frame.invariant, c.loop-frame.auto.frame-index-end)
