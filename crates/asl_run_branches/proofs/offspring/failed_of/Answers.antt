use Rattle.std.proofs.Common.{arith, sym, ap, ◌∙◌}
use Rattle.asl_step.specs.Records.{is_failed}
use Rattle.asl_run_branches.specs.Trees.{Family}
use Rattle.asl_run_branches.proofs.Counts.{failed-few, failed-here, get-at}
use Rattle.asl_run_branches.proofs.offspring.failed_of.Goals as goal

pub overflow_add-failed : goal.overflow_add-failed
overflow_add-failed c =
    let g = get-at c.args.frames.now c.loop-frame.frame-index c.frame-item.result c.frame-item.is c.loop-frame-test.true in
    let one = failed-here c.args.frames.now c.loop-frame.frame-index c.frame-item.result g (ap (λ (f : Family). is_failed f.head.current) (sym c.get.ensures) ∙ ap is_failed (sym c.held.ensures) ∙ sym c.if-is_failed.ensures) in
    omega (arith, one, failed-few c.args.frames.now, c.loop-frame.invariant, c.loop-frame.auto.frame-index-end)
