-- No key comes twice.
use Rattle.std.specs.Prelude.{◌≡◌, ℕ, Bool, false, ◌||◌, nat_eq, List, [], ◌∷◌, ◌++◌}
use Rattle.std.specs.Cmp.Lexicographic.{pointwise}
use Rattle.std.proofs.Common.{append_assoc}
use Rattle.std.proofs.lemmas.List.{append-nil}
use Rattle.asl_json_data.specs.Data.{Data}

abbrev pub Members : Type 0
Members = List (List ℕ × Data)

abbrev pub has_key : List ℕ → Members → Bool
has_key k [] = false
has_key k (m ∷ ms) = pointwise nat_eq k m.0 || has_key k ms

-- no key is among those before it
abbrev pub AreDistinct : Members → Members → Type 0
AreDistinct seen [] = Unit {0}
AreDistinct seen (m ∷ ms) = (has_key m.0 seen ≡ false) × AreDistinct (seen ++ m ∷ []) ms

pub distinct_push : (seen ms : List (List ℕ × Data)) (m : List ℕ × Data) → AreDistinct seen ms
    → has_key m.0 (seen ++ ms) ≡ false → AreDistinct seen (ms ++ m ∷ [])
distinct_push seen [] m h new = (rw append-nil at new, tt)
distinct_push seen (x ∷ ms) m h new =
    (h.0, distinct_push (seen ++ x ∷ []) ms m h.1 (rw (append_assoc seen (x ∷ []) ms) new))
