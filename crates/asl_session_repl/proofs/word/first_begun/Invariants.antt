use Rattle.std.proofs.Common.{◌≡◌, drop}
use Rattle.asl_session_repl.specs.Words.{first_begun}
use Rattle.asl_session_repl.proofs.word.first_begun.Given as goal

abbrev pub invariant-loop-word : goal.invariant-loop-word
invariant-loop-word l = first_begun l.line (drop l.word-index l.words) ≡ first_begun l.line l.words
