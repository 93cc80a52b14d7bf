use Rattle.asl_json_write.proofs.Buffers.{can_cut}
use Rattle.asl_history.proofs.printing.put_line.Goals as goal

pub whole_or_none-requires : goal.whole_or_none-requires
whole_or_none-requires c = can_cut c.args.out.now c.put_parts-appended.new.out c.as_str-len.result.now c.as_str-len.ensures.value c.put_parts-appended.ensures.kept
