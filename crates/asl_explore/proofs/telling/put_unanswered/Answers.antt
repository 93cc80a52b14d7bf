use Rattle.std.specs.Prelude.{string_bytes}
use Rattle.std.proofs.Common.{◌++◌}
use Rattle.asl_explore.specs.Telling.{unanswered_line, unanswered_text}
use Rattle.asl_explore.proofs.Lines.{put-more}
use Rattle.asl_explore.proofs.telling.put_unanswered.Goals as goal

pub loop-answers-preserved : goal.loop-answers-preserved
loop-answers-preserved c =
    put-more unanswered_line c.args.unanswered.now c.loop-answers.answers-index c.answers-item.result (string_bytes c.loop-answers.out) (string_bytes c.put_answers.new.out)
    (string_bytes c.args.out.now ++ unanswered_text c.args.unanswered.now) c.loop-answers-test.true c.answers-item.is c.in_ok-put_answers.ensures c.loop-answers.invariant
