use Rattle.std.proofs.Common.{Some, ◌∙◌, ap, sym, arith}
use Rattle.asl_run_branches.proofs.Counts.{get-at}
use Rattle.asl_run_branches.proofs.Skipping.{below-child}
use Rattle.std.specs.Prelude.{string_bytes}
use Rattle.std.proofs.lemmas.Result.{on_ok_weaker}
use Rattle.asl_trace.proofs.Walking.{at-lines}
use Rattle.asl_trace.proofs.stopping.+frames.Goals as goal

pub put_all_stopped-put_stopped_at-requires : goal.put_all_stopped-put_stopped_at-requires
put_all_stopped-put_stopped_at-requires t c =
    let less = below-child c.args.frames.now c.loop-frame.frame-index c.get.result.now (get-at c.args.frames.now c.loop-frame.frame-index c.frame-item.result c.frame-item.is c.loop-frame-test.true ∙ ap Some (sym c.get.ensures)) in
    (omega (arith, less), tt)

pub put_stopped_at-returns : goal.put_stopped_at-returns
put_stopped_at-returns t c = on_ok_weaker c.put_all_stopped.result (at-lines c.args.start c.args.now c.args.frame.now c.children.result.now (string_bytes c.args.out.now) (string_bytes c.put_running.new.out) (string_bytes c.put_all_stopped.new.out) c.children.ensures c.in_ok-put_running.ensures) c.put_all_stopped.ensures
