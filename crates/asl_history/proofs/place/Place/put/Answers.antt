use Rattle.asl_json_write.proofs.Buffers.{can_cut}
use Rattle.asl_history.proofs.place.Place.put.Goals as goal

pub whole_or_none-requires : goal.whole_or_none-requires
whole_or_none-requires c = can_cut c.args.out.now c.put_steps-appended.new.out c.as_str-len.result.now c.as_str-len.ensures.value c.put_steps-appended.ensures.kept
