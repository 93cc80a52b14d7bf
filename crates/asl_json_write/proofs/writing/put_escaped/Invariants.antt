use Rattle.std.proofs.Common.{◌≡◌, ◌++◌, length}
use Rattle.std.specs.Prelude.{string_bytes}
use Rattle.std.specs.Str.{IsUtf8}
use Rattle.asl_json_write.specs.Buffers.{Keeps}
use Rattle.asl_json_data.specs.Compact.{escaped}
use Rattle.asl_json_write.proofs.writing.put_escaped.Given as goal

abbrev pub invariant-loop-byte : goal.invariant-loop-byte
invariant-loop-byte l = (string_bytes l.out ++ escaped l.rest ≡ string_bytes l.fn.out ++ escaped l.bytes) × IsUtf8 l.rest × Keeps (string_bytes l.fn.out) (string_bytes l.out)

abbrev pub decreases-loop-byte : goal.decreases-loop-byte
decreases-loop-byte l = length l.rest
