use Rattle.std.proofs.Common.{◌≡◌, ◌≤◌, length, []}
use Rattle.std.specs.Prelude.{string_bytes}
use Rattle.std.specs.Str.{IsUtf8}
use Rattle.asl_json_scan.specs.private.Chars.{bare, text_run}
use Rattle.asl_json_read.proofs.quoted.escaped_text.Given as goal

abbrev pub invariant-loop-content : goal.invariant-loop-content
invariant-loop-content l = (text_run bare [] l.bytes ≡ text_run bare (string_bytes l.content) l.rest) × IsUtf8 l.rest × (length l.rest ≤ length l.bytes)

abbrev pub decreases-loop-content : goal.decreases-loop-content
decreases-loop-content l = length l.rest
