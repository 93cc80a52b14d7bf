use Rattle.asl_json_write.proofs.Buffers.{can_cut}
use Rattle.asl_session.proofs.answers.put_answer.Goals as goal

pub whole_or_none-requires : goal.whole_or_none-requires
whole_or_none-requires c = can_cut c.args.out.now c.put_answer_parts-appended.new.out c.as_str-len.result.now c.as_str-len.ensures.value c.put_answer_parts-appended.ensures.kept
