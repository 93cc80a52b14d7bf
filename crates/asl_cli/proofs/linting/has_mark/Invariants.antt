use Rattle.std.proofs.Common.{◌≡◌, drop}
use Rattle.std.specs.List.{list_any}
use Rattle.asl_cli.specs.Linting.{is_file_mark}
use Rattle.asl_cli.proofs.linting.has_mark.Given as goal

-- what is left decides
abbrev pub invariant-loop-byte : goal.invariant-loop-byte
invariant-loop-byte l = list_any is_file_mark l.bytes ≡ list_any is_file_mark (drop l.byte-index l.bytes)
