use Rattle.std.proofs.Common.{◌≡◌, ◌++◌, length, map, true}
use Rattle.std.specs.Prelude.{string_bytes}
use Rattle.std.specs.Str.{IsUtf8, chars, encode_utf8_all}
use Rattle.asl_intrinsic_functions.specs.Letters.{letters, character, meant}
use Rattle.asl_intrinsic_functions.proofs.letter.meaning.Given as goal

abbrev pub invariant-loop-letter : goal.invariant-loop-letter
invariant-loop-letter l = (string_bytes l.out ++ encode_utf8_all (map character (letters true (chars l.rest))) ≡ meant l.written) × IsUtf8 l.rest

abbrev pub decreases-loop-letter : goal.decreases-loop-letter
decreases-loop-letter l = length l.rest
