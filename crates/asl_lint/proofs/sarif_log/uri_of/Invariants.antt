use Rattle.std.proofs.Common.{◌≡◌, ◌++◌, drop}
use Rattle.std.specs.Prelude.{string_bytes}
use Rattle.asl_lint.specs.Sarif.{uri}
use Rattle.asl_lint.proofs.sarif_log.uri_of.Given as goal

-- what is written and what is left are the whole
abbrev pub invariant-loop-byte : goal.invariant-loop-byte
invariant-loop-byte l = string_bytes l.out ++ uri (drop l.byte-index l.byte-items) ≡ uri l.byte-items
