-- The code units of characters.
use Rattle.std.proofs.Common.{◌≡◌, ℕ, ◌+◌, ◌/◌, ◌%◌, ◌≤◌, ◌<◌, Bool, true, false, cond, List, [], ◌∷◌, length, refl, sym, ap, ◌∙◌, arith, length-append}
use Rattle.std.proofs.Math.Dec.{ltb}
use Rattle.std.proofs.Math.Utf8.{encode, encodes}
use Rattle.std.specs.Char.Escape.{encode_utf16}
use Rattle.std.specs.List.{flat_map, sum_by}
use Rattle.std.proofs.lemmas.Bool.{ltb-true, ltb-false}
use Rattle.std.proofs.lemmas.List.Sums.{sum_by-append}
use Rattle.std.proofs.lemmas.Grind.{common_steps}
use Rattle.asl_lsp_positions.specs.Positions.{utf16_units}

-- ---- a byte

one_unit : (b : ℕ) → b < 128 → utf16_units b ≡ 1
one_unit b h = grind (arith, common_steps)

no_unit : (b : ℕ) → 128 ≤ b → b < 192 → utf16_units b ≡ 0
no_unit b h k = grind (arith, common_steps)

first_unit : (b : ℕ) → 192 ≤ b → b < 240 → utf16_units b ≡ 1
first_unit b h k = grind (arith, common_steps)

two_units : (b : ℕ) → 240 ≤ b → utf16_units b ≡ 2
two_units b h = grind (arith, common_steps)

inside : (n : ℕ) → utf16_units (128 + n % 64) ≡ 0
inside n = no_unit (128 + n % 64) (omega arith) (omega arith)

-- ---- a character, by its bytes

abbrev units : List ℕ → ℕ
units bs = sum_by utf16_units bs

by_length : (c : ℕ) (x y z : Bool) (high low : ℕ) → ltb c 128 ≡ x → ltb c 2048 ≡ y → ltb c 65536 ≡ z
    → units (cond x (c ∷ []) (cond y ((192 + c / 64) ∷ (128 + c % 64) ∷ []) (cond z ((224 + c / 4096) ∷ (128 + (c / 64) % 64) ∷ (128 + c % 64) ∷ []) ((240 + c / 262144) ∷ (128 + (c / 4096) % 64) ∷ (128 + (c / 64) % 64) ∷ (128 + c % 64) ∷ []))))
    ≡ length (cond z (c ∷ []) (high ∷ low ∷ []))
by_length c true y true high low e f g = let u = one_unit c (ltb-true c 128 e) in omega arith
by_length c true y false high low e f g = absurd (let a = ltb-true c 128 e in let b = ltb-false c 65536 g in omega arith)
by_length c false true true high low e f g =
    let a = ltb-true c 2048 f in let u = first_unit (192 + c / 64) (omega arith) (omega arith) in let v = inside c in omega arith
by_length c false true false high low e f g = absurd (let a = ltb-true c 2048 f in let b = ltb-false c 65536 g in omega arith)
by_length c false false true high low e f g =
    let a = ltb-true c 65536 g in let u = first_unit (224 + c / 4096) (omega arith) (omega arith) in let v = inside (c / 64) in let w = inside c in omega arith
by_length c false false false high low e f g =
    let u = two_units (240 + c / 262144) (omega arith) in let v = inside (c / 4096) in let w = inside (c / 64) in let x = inside c in omega arith

of_character : (c : ℕ) → units (encode c) ≡ length (encode_utf16 c)
unfolding encode
of_character c = by_length c (ltb c 128) (ltb c 2048) (ltb c 65536) _ _ refl refl refl

-- ---- a text

pub of_text : (cs : List ℕ) → sum_by utf16_units (encodes cs) ≡ length (flat_map encode_utf16 cs)
of_text [] = refl
of_text (c ∷ cs) =
    sum_by-append utf16_units (encode c) (encodes cs)
    ∙ ap (λ (n : ℕ). n + units (encodes cs)) (of_character c)
    ∙ ap (λ (n : ℕ). length (encode_utf16 c) + n) (of_text cs)
    ∙ sym (length-append (encode_utf16 c) (flat_map encode_utf16 cs))
