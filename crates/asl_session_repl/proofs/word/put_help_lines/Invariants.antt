use Rattle.std.proofs.Common.{◌≡◌, ◌++◌, drop}
use Rattle.std.specs.Prelude.{string_bytes}
use Rattle.asl_session_repl.specs.Words.{help_lines}
use Rattle.asl_session_repl.proofs.word.put_help_lines.Given as goal

abbrev pub invariant-loop-word : goal.invariant-loop-word
invariant-loop-word l = string_bytes l.out ++ help_lines (drop l.word-index l.words) ≡ string_bytes l.fn.out ++ help_lines l.words
