use Rattle.std.proofs.lemmas.Str.{IsUtf8-from_ascii}
use Rattle.asl_time.proofs.print.MomentDisplay.fmt.Goals as goal

pub unreachable-requires : goal.unreachable-requires
unreachable-requires g c = c.in_default.ensures.cases.0 (IsUtf8-from_ascii c.stamp-bytes.result c.stamp-bytes.ensures.ascii)
