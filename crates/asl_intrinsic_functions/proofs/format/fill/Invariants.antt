use Rattle.std.proofs.Common.{◌≡◌, ◌++◌, ◌≤◌, length, map, drop}
use Rattle.std.specs.Prelude.{option_map, string_bytes}
use Rattle.std.specs.Str.{IsUtf8, chars}
use Rattle.asl_intrinsic_functions.specs.Seen.{all_seen}
use Rattle.asl_intrinsic_functions.specs.Letters.{letters}
use Rattle.asl_intrinsic_functions.specs.Format.{tokens, filled, shown}
use Rattle.asl_intrinsic_functions.proofs.format.fill.Given as goal

abbrev pub invariant-loop-letter : goal.invariant-loop-letter
invariant-loop-letter l = ((option_map (λ r. string_bytes l.out ++ r) (filled (tokens (letters l.escapes (chars l.rest))) (map shown (all_seen (drop l.next l.values)))) ≡ filled (tokens (letters l.escapes (chars l.template))) (map shown (all_seen l.values))) × (l.next ≤ length l.values)) × IsUtf8 l.rest

abbrev pub decreases-loop-letter : goal.decreases-loop-letter
decreases-loop-letter l = length l.rest
