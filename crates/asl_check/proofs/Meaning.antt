-- A text that is spelled in UTF-8 is in UTF-8.
use Rattle.std.proofs.Common.{◌≡◌, ℕ, ◌<◌, true, false, List, [], ◌∷◌, ◌++◌, sym, subst, inl, inr, arith}
use Rattle.std.proofs.lemmas.List.{append_assoc}
use Rattle.std.proofs.lemmas.Str.{IsUtf8-append, IsUtf8-encode}
use lib.Utf8.{encode}
use Rattle.std.specs.Str.{IsUtf8}
use Rattle.std.specs.Char.{IsScalar, InScalarRange, digit_value}
use Rattle.std.specs.Char.Utf16.{is_high_surrogate, is_low_surrogate, surrogate_pair_char}
use Rattle.asl_json_data.specs.Text.{quote, backslash, letter_u, is_letter, letter_value, is_hex, Quad, quad, AreHex, digits_of, unit_of, escape, Piece, plain, short, single, pair, ArePieces, all_spelled, all_meant, SpellsText}
use Rattle.asl_json_scan.proofs.Escapes.{letter_ascii, single_range, high_range, low_range}
use Rattle.asl_json_scan.proofs.Fronts.{utf8_after}
use Rattle.asl_check.proofs.Cutting.{utf8_byte, cut_before, cut_behind, one_more}

ranged : (c : ℕ) → InScalarRange c → IsScalar c
ranged c (inl h) = grind (arith, h)
ranged c (inr h) = grind (arith, h)

hex_below : (c : ℕ) → is_hex c ≡ true → (digit_value c < 16) × (c < 128)
unfolding is_hex
hex_below c e = (grind (arith, e), grind (arith, e))

unit_small : (q : Quad) → AreHex q → unit_of q < 65536
unfolding unit_of
unit_small (quad a b c d) h = omega (arith, (hex_below a h.0).0, (hex_below b h.1.0).0, (hex_below c h.1.1.0).0, (hex_below d h.1.1.1).0)

pair_range : (v w : ℕ) → is_high_surrogate v ≡ true → is_low_surrogate w ≡ true → InScalarRange (surrogate_pair_char v w)
pair_range v w h l =
    let a = high_range v h in
    let b = low_range w l in
    inr (grind (arith, a, b))

single_meant : (q : Quad) → AreHex q → is_high_surrogate (unit_of q) ≡ false → is_low_surrogate (unit_of q) ≡ false → IsScalar (unit_of q)
single_meant q h a b = ranged (unit_of q) (single_range (unit_of q) a b (unit_small q h))

-- the digits of an escape are ASCII
past_digits : (q : Quad) (t : List ℕ) → AreHex q → IsUtf8 (digits_of q ++ t) → IsUtf8 t
past_digits (quad a b c d) t h u =
    utf8_after d t (hex_below d h.1.1.1).1 (utf8_after c _ (hex_below c h.1.1.0).1 (utf8_after b _ (hex_below b h.1.0).1 (utf8_after a _ (hex_below a h.0).1 u)))

letter_small : (c : ℕ) → is_letter c ≡ true → letter_value c < 128
unfolding letter_value
letter_small c h = let lt = letter_ascii c h in grind (arith, lt)

-- what is meant by pieces behind some bytes, where what is spelled is in UTF-8
pub meant_utf8 : (u : List ℕ) (ps : List Piece) → ArePieces ps → IsUtf8 (u ++ all_spelled ps) → IsUtf8 (u ++ all_meant ps)
meant_utf8 u [] h g = g
meant_utf8 u (plain c ∷ ps) h g = subst IsUtf8 (one_more u c (all_meant ps)) (meant_utf8 (u ++ c ∷ []) ps h.1 (subst IsUtf8 (sym (one_more u c (all_spelled ps))) g))
meant_utf8 u (short c ∷ ps) h g =
    let rest = utf8_after c (all_spelled ps) (letter_ascii c h.0) (cut_behind u backslash (c ∷ all_spelled ps) (omega arith) g) in
    IsUtf8-append u (letter_value c ∷ all_meant ps) (cut_before u backslash (c ∷ all_spelled ps) (omega arith) g)
    (IsUtf8-append (letter_value c ∷ []) (all_meant ps) (utf8_byte (letter_value c) (letter_small c h.0)) (meant_utf8 [] ps h.1 rest))
meant_utf8 u (single q ∷ ps) h g =
    let behind = letter_u ∷ (digits_of q ++ all_spelled ps) in
    let rest = past_digits q (all_spelled ps) h.0.0 (utf8_after letter_u _ (omega arith) (cut_behind u backslash behind (omega arith) g)) in
    IsUtf8-append u (encode (unit_of q) ++ all_meant ps) (cut_before u backslash behind (omega arith) g)
    (IsUtf8-append (encode (unit_of q)) (all_meant ps) (IsUtf8-encode (unit_of q) (single_meant q h.0.0 h.0.1.0 h.0.1.1)) (meant_utf8 [] ps h.1 rest))
meant_utf8 u (pair q r ∷ ps) h g =
    let behind = letter_u ∷ (digits_of q ++ escape r) ++ all_spelled ps in
    let first : IsUtf8 (digits_of q ++ (backslash ∷ letter_u ∷ (digits_of r ++ all_spelled ps))) = subst IsUtf8 (append_assoc (digits_of q) (escape r) (all_spelled ps)) (utf8_after letter_u _ (omega arith) (cut_behind u backslash behind (omega arith) g)) in
    let second = utf8_after letter_u _ (omega arith) (utf8_after backslash _ (omega arith) (past_digits q _ h.0.0.0 first)) in
    let rest = past_digits r (all_spelled ps) h.0.1.0 second in
    let c = surrogate_pair_char (unit_of q) (unit_of r) in
    IsUtf8-append u (encode c ++ all_meant ps) (cut_before u backslash behind (omega arith) g)
    (IsUtf8-append (encode c) (all_meant ps) (IsUtf8-encode c (ranged c (pair_range (unit_of q) (unit_of r) h.0.0.1 h.0.1.1))) (meant_utf8 [] ps h.1 rest))

pub text_utf8 : (before s t behind : List ℕ) → IsUtf8 (before ++ (t ++ behind)) → SpellsText s t → IsUtf8 s
text_utf8 before s t behind u h =
    let quoted : IsUtf8 (before ++ quote ∷ (h.inner ++ quote ∷ behind)) = subst (λ (x : List ℕ). IsUtf8 (before ++ quote ∷ x)) (append_assoc h.inner (quote ∷ []) behind) (subst (λ (x : List ℕ). IsUtf8 (before ++ (x ++ behind))) h.parts u) in
    let inner : IsUtf8 h.inner = cut_before h.inner quote behind (omega arith) (cut_behind before quote _ (omega arith) quoted) in
    subst IsUtf8 (sym h.inner_is.meant_is) (meant_utf8 [] h.inner_is.pieces h.inner_is.pieces_are (subst IsUtf8 h.inner_is.spelled_is inner))
