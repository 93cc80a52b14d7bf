use Rattle.std.proofs.lemmas.Str.{IsUtf8-from_ascii}
use Rattle.asl_time.proofs.print.put_shown.Goals as goal

pub unreachable-requires : goal.unreachable-requires
unreachable-requires c = c.in_default.ensures.cases.0 (IsUtf8-from_ascii c.bytes_of-bytes.result c.bytes_of-bytes.ensures.ascii)
