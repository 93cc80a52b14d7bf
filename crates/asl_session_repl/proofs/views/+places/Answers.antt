use Rattle.std.proofs.Common.{Some, ◌∙◌, ap, sym, arith}
use Rattle.asl_run_branches.proofs.Counts.{get-at}
use Rattle.asl_run_branches.proofs.Skipping.{below-child}
use Rattle.asl_session_repl.proofs.Trees.{frame-told}
use Rattle.asl_session_repl.proofs.views.+places.Goals as goal

pub put_frame-returns : goal.put_frame-returns
put_frame-returns t c = frame-told c.put_frames.result _ _ _ _ _ c.args.session.now c.args.frame.now c.children.result.now c.place.ensures c.held.ensures c.children.ensures c.in_ok-put_branch.ensures c.put_frames.ensures

pub put_frames-put_frame-requires : goal.put_frames-put_frame-requires
put_frames-put_frame-requires t c =
    let less = below-child c.args.frames.now c.loop-frame.frame-index c.get.result.now (get-at c.args.frames.now c.loop-frame.frame-index c.frame-item.result c.frame-item.is c.loop-frame-test.true ∙ ap Some (sym c.get.ensures)) in
    (omega (arith, less), tt)
