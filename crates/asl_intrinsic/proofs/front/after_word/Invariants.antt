use Rattle.std.proofs.Common.{◌≡◌, ◌≤◌, length, drop}
use denote.Shadow.{shadow}
use denote.Text.{Utf8}
use Rattle.asl_path.specs.Grammar.{Each}
use Rattle.asl_intrinsic.specs.private.Leads.{after_word, is_ascii}
use Rattle.asl_intrinsic.proofs.front.after_word.Given as goal

abbrev pub invariant-loop-byte : goal.invariant-loop-byte
invariant-loop-byte l = (after_word l.word l.text ≡ after_word (drop l.byte-index l.word) l.rest) × Each is_ascii (drop l.byte-index l.word) × (length l.rest ≤ length l.text) × shadow (Utf8 l.rest)
