use Rattle.asl_json_scan.proofs.Fronts.{utf8_skips, skips_at}
use Rattle.std.proofs.lemmas.List.{take_rest}
use Rattle.asl_json_scan.proofs.front.skip_spaces.Goals as goal

pub returns-clause-utf8 : goal.returns-clause-utf8
returns-clause-utf8 c = λ u. rw take_rest (utf8_skips c.args.bytes.now _ (skips_at c.args.bytes.now c.space_len-end.result c.space_len-end.ensures.spaces c.space_len-end.ensures.stops) u)
