use Rattle.std.proofs.Common.{◌≡◌, drop}
use Rattle.std.specs.List.{list_all}
use Rattle.asl_session_repl.specs.Moments.{is_clock_byte}
use Rattle.asl_session_repl.proofs.timed.are_clock_bytes.Given as goal

-- what holds of the bytes that are left holds of all
abbrev pub invariant-loop-byte : goal.invariant-loop-byte
invariant-loop-byte l = list_all is_clock_byte (drop l.byte-index l.text) ≡ list_all is_clock_byte l.text
