use Rattle.std.proofs.Common.{◌≡◌, ◌||◌, ℕ, length, nat_eq}
use Rattle.std.specs.HashSet.{contains}
use Rattle.std.specs.Str.{IsUtf8, chars}
use Rattle.asl_intrinsic_functions.specs.Texts.{is_among}
use Rattle.asl_intrinsic_functions.proofs.split.char_set.Given as goal

abbrev pub invariant-loop-character : goal.invariant-loop-character
invariant-loop-character l = ((c : ℕ) → (contains nat_eq l.set c || is_among c (chars l.rest)) ≡ is_among c (chars l.text)) × IsUtf8 l.rest

abbrev pub decreases-loop-character : goal.decreases-loop-character
decreases-loop-character l = length l.rest
