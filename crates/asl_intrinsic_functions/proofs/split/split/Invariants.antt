use Rattle.std.proofs.Common.{◌≡◌, ◌++◌, ℕ, List, length, nat_eq}
use Rattle.std.specs.Prelude.{string_bytes}
use Rattle.std.specs.HashSet.{contains}
use Rattle.std.specs.Str.{IsUtf8, chars}
use Rattle.asl_json.specs.View.{items_of}
use Rattle.asl_intrinsic_functions.specs.Texts.{is_among, between, texts_of}
use Rattle.asl_intrinsic_functions.specs.private.Loops.{split_behind}
use Rattle.asl_intrinsic_functions.proofs.split.split.Given as goal

abbrev pub invariant-loop-character : goal.invariant-loop-character
invariant-loop-character l = ((cs : List ℕ) → ((c : ℕ) → contains nat_eq l.separators c ≡ is_among c cs) → items_of l.pieces.items ++ split_behind cs (string_bytes l.piece) (chars l.rest) ≡ texts_of (between cs (chars l.text))) × IsUtf8 l.rest

abbrev pub decreases-loop-character : goal.decreases-loop-character
decreases-loop-character l = length l.rest
