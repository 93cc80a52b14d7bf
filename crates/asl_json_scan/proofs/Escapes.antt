-- The reader's steps over escapes, as stretches of the run over a text.
use Rattle.std.proofs.Common.{◌≡◌, ℕ, suc, ◌+◌, ◌*◌, ◌<◌, ◌≤◌, Bool, true, false, nat_le, nat_lt, ◌==◌, ◌&&◌, ◌||◌, List, [], ◌∷◌, ◌++◌, length, encode_utf8, refl, sym, ap, subst, ◌∙◌, arith, append_assoc, inl, inr, Result, Ok, Err, IfOk, IfErr}
use Rattle.std.proofs.lemmas.Str.{encode_ascii}
use Rattle.std.proofs.lemmas.List.{append-nil}
use Rattle.std.specs.Char.{digit_value, InScalarRange}
use Rattle.std.specs.Char.Utf16.{is_high_surrogate, is_low_surrogate, surrogate_pair_char}
use Rattle.asl_json_data.specs.Text.{quote, backslash, letter_u, is_plain, ArePlain, is_letter, letter_value, is_hex, Quad, quad, digits_of, AreHex, unit_of, escape, begins_low}
use Rattle.asl_json_scan.specs.private.Chars.{Within, bare, slash, unit_0, unit_1, unit_2, unit_3, half, half_slash, low_0, low_1, low_2, low_3, WantsHex, Inside, goes, ends, breaks, lone, on_unit, in_text, Textual, closed, told, text_run}
use Rattle.asl_json_scan.specs.private.Leads.{Breaks, FirstIsNot, NoPlainFirst, HexFirst, IsUnit, IsLowUnit, IsPartner}
use Rattle.asl_json_scan.specs.declared.fault.Kind.TheVariants as kinds
use Rattle.asl_json_scan.specs.declared.fault.Stop.{Stop}
use Rattle.asl_json_scan.specs.declared.fault.Stop.TheVariants as stops
use Rattle.std.proofs.lemmas.Bool.{and_parts}
use Rattle.asl_json_scan.proofs.Texts.{digits_reach, plain_no_quote, plain_no_backslash, letter_no_u, inside_then, text_reach, run_step, run_reach, low_begins, low_reach}

pub breaks_along : (e : Stop) (r t : Textual) → r ≡ t → Breaks e t → Breaks e r
breaks_along stops.Memory r t same b = tt
breaks_along (stops.Fault f) r t same b = same ∙ b

no_hex_step : (q : Within) (s : List ℕ) (c : ℕ) → WantsHex q → is_hex c ≡ false → in_text q s c ≡ breaks
unfolding in_text
no_hex_step unit_0 s c w e = rw e refl
no_hex_step (unit_1 a) s c w e = rw e refl
no_hex_step (unit_2 a b) s c w e = rw e refl
no_hex_step (unit_3 a b d) s c w e = rw e refl
no_hex_step (low_0 q) s c w e = rw e refl
no_hex_step (low_1 q a) s c w e = rw e refl
no_hex_step (low_2 q a b) s c w e = rw e refl
no_hex_step (low_3 q a b d) s c w e = rw e refl
no_hex_step x s c w e = absurd w

pub text_stops : (q : Within) (s : List ℕ) (c : ℕ) (rest : List ℕ) → in_text q s c ≡ breaks → text_run q s (c ∷ rest) ≡ told kinds.Syntax (length (c ∷ rest))
text_stops q s c rest e = run_step q s c rest breaks e

pub text_empty : (q : Within) (s : List ℕ) → text_run q s [] ≡ told kinds.Syntax 0
unfolding text_run
text_empty q s = refl

-- no digit stands first
pub no_hex : (q : Within) (s bytes : List ℕ) (c : ℕ) (rest : List ℕ) → WantsHex q → bytes ≡ c ∷ rest → is_hex c ≡ false → text_run q s bytes ≡ told kinds.Syntax (length bytes)
no_hex q s bytes c rest w e n = rw e (text_stops q s c rest (no_hex_step q s c w n))

-- over a digit
over : (q r : Within) (s bytes : List ℕ) (v : ℕ) (rest : List ℕ) → (h : HexFirst bytes v rest) → in_text q s h.digit ≡ goes r s → text_run q s bytes ≡ text_run r s rest
over q r s bytes v rest h e = ap (text_run q s) h.parts ∙ run_step q s h.digit rest (goes r s) e

-- a digit that tells
stands_alone : (q : Within) (s bytes : List ℕ) (v : ℕ) (rest : List ℕ) (back left : ℕ) → (h : HexFirst bytes v rest) → in_text q s h.digit ≡ lone back → left ≡ back + length bytes → text_run q s bytes ≡ told kinds.Lone left
stands_alone q s bytes v rest back left h e n =
    let count : back + suc (length rest) ≡ left = omega (arith, n, ap length h.parts) in
    ap (text_run q s) h.parts ∙ run_step q s h.digit rest (lone back) e ∙ ap (told kinds.Lone) count

-- whether a low half begins with two digits, by their values
pub begins_by : (b r t : List ℕ) (v w : ℕ) (h : HexFirst b v r) (g : HexFirst r w t) (x : Bool) → ((v == 13) && nat_le 12 w) ≡ x → begins_low h.digit g.digit ≡ x
unfolding begins_low
begins_by b r t v w h g x e = rw (sym h.value_is, sym g.value_is) e

pub first_by : (b r : List ℕ) (v : ℕ) (h : HexFirst b v r) (x : Bool) → (v == 13) ≡ x → (digit_value h.digit == 13) ≡ x
first_by b r v h x e = rw (sym h.value_is) e

-- ---- four digits

pub first_digit : (b r : List ℕ) (v : ℕ) (h : HexFirst b v r) (s : List ℕ) → text_run unit_0 s b ≡ text_run (unit_1 h.digit) s r
unfolding in_text
first_digit b r v h s = over unit_0 (unit_1 h.digit) s b v r h (rw h.digit_is refl)

pub second_digit : (a : ℕ) (b r : List ℕ) (v : ℕ) (h : HexFirst b v r) (s : List ℕ) → begins_low a h.digit ≡ false → text_run (unit_1 a) s b ≡ text_run (unit_2 a h.digit) s r
unfolding in_text
second_digit a b r v h s e = over (unit_1 a) (unit_2 a h.digit) s b v r h (rw (h.digit_is, e) refl)

pub second_alone : (a : ℕ) (b r : List ℕ) (v left : ℕ) (h : HexFirst b v r) (s : List ℕ) → begins_low a h.digit ≡ true → left ≡ 3 + length b → text_run (unit_1 a) s b ≡ told kinds.Lone left
unfolding in_text
second_alone a b r v left h s e n = stands_alone (unit_1 a) s b v r 3 left h (rw (h.digit_is, e) refl) n

pub third_digit : (x y : ℕ) (b r : List ℕ) (v : ℕ) (h : HexFirst b v r) (s : List ℕ) → text_run (unit_2 x y) s b ≡ text_run (unit_3 x y h.digit) s r
unfolding in_text
third_digit x y b r v h s = over (unit_2 x y) (unit_3 x y h.digit) s b v r h (rw h.digit_is refl)

pub low_first_digit : (q : Quad) (b r : List ℕ) (v : ℕ) (h : HexFirst b v r) (s : List ℕ) → (v == 13) ≡ true → text_run (low_0 q) s b ≡ text_run (low_1 q h.digit) s r
unfolding in_text
low_first_digit q b r v h s e = let is = first_by b r v h true e in over (low_0 q) (low_1 q h.digit) s b v r h (rw (h.digit_is, is) refl)

pub low_first_alone : (q : Quad) (b r : List ℕ) (v left : ℕ) (h : HexFirst b v r) (s : List ℕ) → (v == 13) ≡ false → left ≡ 8 + length b → text_run (low_0 q) s b ≡ told kinds.Lone left
unfolding in_text
low_first_alone q b r v left h s e n = let is = first_by b r v h false e in stands_alone (low_0 q) s b v r 8 left h (rw (h.digit_is, is) refl) n

pub low_second_digit : (q : Quad) (a : ℕ) (b r : List ℕ) (v : ℕ) (h : HexFirst b v r) (s : List ℕ) → begins_low a h.digit ≡ true → text_run (low_1 q a) s b ≡ text_run (low_2 q a h.digit) s r
unfolding in_text
low_second_digit q a b r v h s e = over (low_1 q a) (low_2 q a h.digit) s b v r h (rw (h.digit_is, e) refl)

pub low_second_alone : (q : Quad) (a : ℕ) (b r : List ℕ) (v left : ℕ) (h : HexFirst b v r) (s : List ℕ) → begins_low a h.digit ≡ false → left ≡ 9 + length b → text_run (low_1 q a) s b ≡ told kinds.Lone left
unfolding in_text
low_second_alone q a b r v left h s e n = stands_alone (low_1 q a) s b v r 9 left h (rw (h.digit_is, e) refl) n

pub low_third_digit : (q : Quad) (x y : ℕ) (b r : List ℕ) (v : ℕ) (h : HexFirst b v r) (s : List ℕ) → text_run (low_2 q x y) s b ≡ text_run (low_3 q x y h.digit) s r
unfolding in_text
low_third_digit q x y b r v h s = over (low_2 q x y) (low_3 q x y h.digit) s b v r h (rw h.digit_is refl)

-- four digits in a row
pub record Digits (b : List ℕ) (v1 v2 v3 v4 : ℕ) (rest : List ℕ) : Type 0 where
  pub r1 : List ℕ
  pub r2 : List ℕ
  pub r3 : List ℕ
  pub d1 : HexFirst b v1 r1
  pub d2 : HexFirst r1 v2 r2
  pub d3 : HexFirst r2 v3 r3
  pub d4 : HexFirst r3 v4 rest

quad_of : (b : List ℕ) (v1 v2 v3 v4 : ℕ) (rest : List ℕ) → Digits b v1 v2 v3 v4 rest → Quad
quad_of b v1 v2 v3 v4 rest d = quad d.d1.digit d.d2.digit d.d3.digit d.d4.digit

quad_parts : (b : List ℕ) (v1 v2 v3 v4 : ℕ) (rest : List ℕ) (d : Digits b v1 v2 v3 v4 rest) → b ≡ digits_of (quad_of b v1 v2 v3 v4 rest d) ++ rest
unfolding quad_of
quad_parts b v1 v2 v3 v4 rest d = d.d1.parts ∙ ap (λ (x : List ℕ). d.d1.digit ∷ x) (d.d2.parts ∙ ap (λ (x : List ℕ). d.d2.digit ∷ x) (d.d3.parts ∙ ap (λ (x : List ℕ). d.d3.digit ∷ x) d.d4.parts))

quad_value : (b : List ℕ) (v1 v2 v3 v4 : ℕ) (rest : List ℕ) (d : Digits b v1 v2 v3 v4 rest) → ((v1 * 16 + v2) * 16 + v3) * 16 + v4 ≡ unit_of (quad_of b v1 v2 v3 v4 rest d)
unfolding quad_of unit_of
quad_value b v1 v2 v3 v4 rest d = rw (d.d1.value_is, d.d2.value_is, d.d3.value_is, d.d4.value_is) refl

quad_hex : (b : List ℕ) (v1 v2 v3 v4 : ℕ) (rest : List ℕ) (d : Digits b v1 v2 v3 v4 rest) → AreHex (quad_of b v1 v2 v3 v4 rest d)
unfolding quad_of
quad_hex b v1 v2 v3 v4 rest d = (d.d1.digit_is, (d.d2.digit_is, (d.d3.digit_is, d.d4.digit_is)))

quad_low : (b : List ℕ) (v1 v2 v3 v4 : ℕ) (rest : List ℕ) (d : Digits b v1 v2 v3 v4 rest) (x : Bool) → ((v1 == 13) && nat_le 12 v2) ≡ x → is_low_surrogate (((v1 * 16 + v2) * 16 + v3) * 16 + v4) ≡ x
unfolding quad_of
quad_low b v1 v2 v3 v4 rest d x e = rw (quad_value b v1 v2 v3 v4 rest d) (low_begins d.d1.digit d.d2.digit d.d3.digit d.d4.digit (quad_hex b v1 v2 v3 v4 rest d) ∙ begins_by b d.r1 d.r2 v1 v2 d.d1 d.d2 x e)

pub is_unit : (b : List ℕ) (v1 v2 v3 v4 : ℕ) (rest : List ℕ) → Digits b v1 v2 v3 v4 rest → ((v1 == 13) && nat_le 12 v2) ≡ false → IsUnit b (((v1 * 16 + v2) * 16 + v3) * 16 + v4) rest
is_unit b v1 v2 v3 v4 rest d e = record {
  digits = quad_of b v1 v2 v3 v4 rest d;
  digits_are = quad_hex b v1 v2 v3 v4 rest d;
  value_is = quad_value b v1 v2 v3 v4 rest d;
  no_low = quad_low b v1 v2 v3 v4 rest d false e;
  small = omega (arith, d.d1.small, d.d2.small, d.d3.small, d.d4.small);
  parts = quad_parts b v1 v2 v3 v4 rest d;
}

pub is_low_unit : (b : List ℕ) (v1 v2 v3 v4 : ℕ) (rest : List ℕ) → Digits b v1 v2 v3 v4 rest → ((v1 == 13) && nat_le 12 v2) ≡ true → IsLowUnit b (((v1 * 16 + v2) * 16 + v3) * 16 + v4) rest
is_low_unit b v1 v2 v3 v4 rest d e = record {
  digits = quad_of b v1 v2 v3 v4 rest d;
  digits_are = quad_hex b v1 v2 v3 v4 rest d;
  value_is = quad_value b v1 v2 v3 v4 rest d;
  low = quad_low b v1 v2 v3 v4 rest d true e;
  parts = quad_parts b v1 v2 v3 v4 rest d;
}

-- ---- a byte that is no digit

pub none_left : (q : Within) (s bytes : List ℕ) → bytes ≡ [] → text_run q s bytes ≡ told kinds.Syntax (length bytes)
none_left q s bytes e = rw e (text_empty q s)

pub not_hex : (c d : ℕ) → d ≡ c → (digit_value d < 16 → ⊥) → is_hex c ≡ false
unfolding is_hex
not_hex c d e h = subst (λ (x : ℕ). nat_lt (digit_value x) 16 ≡ false) e (grind (arith, h))

pub hex_ascii : (c d : ℕ) → d ≡ c → digit_value d < 16 → c < 128
hex_ascii c d e h = subst (λ (x : ℕ). x < 128) e (small d h)
  where
    small : (d : ℕ) → digit_value d < 16 → d < 128
    small d h = grind (arith, h)

-- ---- behind a high half

pub no_escape_alone : (q : Quad) (s bytes : List ℕ) (c : ℕ) (rest : List ℕ) (left : ℕ) → bytes ≡ c ∷ rest → (c == backslash) ≡ false → ((c == quote) || is_plain c) ≡ true → left ≡ length bytes + 6 → text_run (half q) s bytes ≡ told kinds.Lone left
unfolding in_text
no_escape_alone q s bytes c rest left e n h l =
    let count : 6 + suc (length rest) ≡ left = omega (arith, l, ap length e) in
    ap (text_run (half q) s) e ∙ run_step (half q) s c rest (lone 6) (rw (n, h) refl) ∙ ap (told kinds.Lone) count

pub no_escape_breaks : (q : Quad) (s bytes : List ℕ) (c : ℕ) (rest : List ℕ) → bytes ≡ c ∷ rest → (c == backslash) ≡ false → ((c == quote) || is_plain c) ≡ false → text_run (half q) s bytes ≡ told kinds.Syntax (length bytes)
unfolding in_text
no_escape_breaks q s bytes c rest e n h = rw e (text_stops (half q) s c rest (rw (n, h) refl))

pub letter_alone : (q : Quad) (s bytes : List ℕ) (c : ℕ) (rest : List ℕ) (left : ℕ) → bytes ≡ c ∷ rest → (c == letter_u) ≡ false → is_letter c ≡ true → left ≡ length bytes + 7 → text_run (half_slash q) s bytes ≡ told kinds.Lone left
unfolding in_text
letter_alone q s bytes c rest left e n h l =
    let count : 7 + suc (length rest) ≡ left = omega (arith, l, ap length e) in
    ap (text_run (half_slash q) s) e ∙ run_step (half_slash q) s c rest (lone 7) (rw (n, h) refl) ∙ ap (told kinds.Lone) count

pub letter_breaks : (q : Quad) (s bytes : List ℕ) (c : ℕ) (rest : List ℕ) → bytes ≡ c ∷ rest → (c == letter_u) ≡ false → is_letter c ≡ false → text_run (half_slash q) s bytes ≡ told kinds.Syntax (length bytes)
unfolding in_text
letter_breaks q s bytes c rest e n h = rw e (text_stops (half_slash q) s c rest (rw (n, h) refl))

pub not_first : (x c : ℕ) (bytes rest : List ℕ) → FirstIsNot x bytes → bytes ≡ c ∷ rest → (c == x) ≡ false
not_first x c bytes rest f e = subst (FirstIsNot x) e f

pub to_slash : (q : Quad) (s bytes rest : List ℕ) → bytes ≡ backslash ∷ rest → text_run (half q) s bytes ≡ text_run (half_slash q) s rest
unfolding in_text
to_slash q s bytes rest e = ap (text_run (half q) s) e ∙ run_step (half q) s backslash rest (goes (half_slash q) s) refl

pub to_low : (q : Quad) (s bytes rest : List ℕ) → bytes ≡ letter_u ∷ rest → text_run (half_slash q) s bytes ≡ text_run (low_0 q) s rest
unfolding in_text
to_low q s bytes rest e = ap (text_run (half_slash q) s) e ∙ run_step (half_slash q) s letter_u rest (goes (low_0 q) s) refl

pub is_partner : (bytes rest inside : List ℕ) (v : ℕ) (behind : List ℕ) → bytes ≡ backslash ∷ rest → rest ≡ letter_u ∷ inside → IsLowUnit inside v behind → IsPartner bytes v behind
is_partner bytes rest inside v behind e f h = record { digits = h.digits; digits_are = h.digits_are; value_is = h.value_is; low = h.low; parts = e ∙ ap (λ (x : List ℕ). backslash ∷ x) (f ∙ ap (λ (x : List ℕ). letter_u ∷ x) h.parts) }

-- ---- the character

-- over the digits of a unit
unit_run : (s bytes : List ℕ) (v : ℕ) (rest : List ℕ) (h : IsUnit bytes v rest) (r : Within) (t : List ℕ) → on_unit s h.digits ≡ goes r t → text_run unit_0 s bytes ≡ text_run r t rest
unfolding in_text
unit_run s bytes v rest h r t e = ap (text_run unit_0 s) h.parts ∙ run_reach unit_0 s (digits_of h.digits) rest r t (digits_reach s h.digits h.digits_are (sym (ap is_low_surrogate h.value_is) ∙ h.no_low) ∙ e)

pub single_read : (s bytes : List ℕ) (v : ℕ) (rest : List ℕ) (c : ℕ) → IsUnit bytes v rest → is_high_surrogate v ≡ false → c ≡ v → text_run unit_0 s bytes ≡ text_run bare (s ++ encode_utf8 c) rest
unfolding on_unit
single_read s bytes v rest c h n e =
    let high : is_high_surrogate (unit_of h.digits) ≡ false = sym (ap is_high_surrogate h.value_is) ∙ n in
    unit_run s bytes v rest h bare (s ++ encode_utf8 (unit_of h.digits)) (rw high refl) ∙ ap (λ (x : ℕ). text_run bare (s ++ encode_utf8 x) rest) (sym (e ∙ h.value_is))

pub high_read : (s bytes : List ℕ) (v : ℕ) (rest : List ℕ) (h : IsUnit bytes v rest) → is_high_surrogate v ≡ true → text_run unit_0 s bytes ≡ text_run (half h.digits) s rest
unfolding on_unit
high_read s bytes v rest h e =
    let high : is_high_surrogate (unit_of h.digits) ≡ true = sym (ap is_high_surrogate h.value_is) ∙ e in
    unit_run s bytes v rest h (half h.digits) s (rw high refl)

pub pair_read : (s bytes : List ℕ) (v : ℕ) (rest : List ℕ) (w : ℕ) (behind : List ℕ) (c : ℕ) → IsUnit bytes v rest → is_high_surrogate v ≡ true → IsPartner rest w behind → c ≡ surrogate_pair_char v w → text_run unit_0 s bytes ≡ text_run bare (s ++ encode_utf8 c) behind
pair_read s bytes v rest w behind c h high g e =
    let low : is_low_surrogate (unit_of g.digits) ≡ true = sym (ap is_low_surrogate g.value_is) ∙ g.low in
    let char : surrogate_pair_char (unit_of h.digits) (unit_of g.digits) ≡ c = sym (e ∙ ap (λ (x : ℕ). surrogate_pair_char x w) h.value_is ∙ ap (surrogate_pair_char (unit_of h.digits)) g.value_is) in
    high_read s bytes v rest h high
    ∙ ap (text_run (half h.digits) s) g.parts
    ∙ run_reach (half h.digits) s (escape g.digits) behind bare (s ++ encode_utf8 (surrogate_pair_char (unit_of h.digits) (unit_of g.digits))) (low_reach s h.digits g.digits g.digits_are low)
    ∙ ap (λ (x : ℕ). text_run bare (s ++ encode_utf8 x) behind) char

pub single_range : (v : ℕ) → is_high_surrogate v ≡ false → is_low_surrogate v ≡ false → v < 65536 → InScalarRange v
single_range v h l small = told (nat_lt v 0xD800) refl
  where
    told : (x : Bool) → nat_lt v 0xD800 ≡ x → InScalarRange v
    told true e = inl (grind (arith, e))
    told false e = inr (let from : 0xD800 ≤ v = grind (arith, e) in let next : 0xDC00 ≤ v = grind (arith, h, from) in grind (arith, l, next, small))

pub high_range : (v : ℕ) → is_high_surrogate v ≡ true → (0xD800 ≤ v) × (v < 0xDC00)
high_range v e = let p = and_parts (nat_le 0xD800 v) (nat_lt v 0xDC00) e in (grind (arith, p.0), grind (arith, p.1))

pub low_range : (w : ℕ) → is_low_surrogate w ≡ true → (0xDC00 ≤ w) × (w < 0xE000)
low_range w e = let p = and_parts (nat_le 0xDC00 w) (nat_lt w 0xE000) e in (grind (arith, p.0), grind (arith, p.1))

pub to_unit : (s bytes rest : List ℕ) → bytes ≡ letter_u ∷ rest → text_run slash s bytes ≡ text_run unit_0 s rest
unfolding in_text
to_unit s bytes rest e = ap (text_run slash s) e ∙ run_step slash s letter_u rest (goes unit_0 s) refl

pub letter_ascii : (c : ℕ) → is_letter c ≡ true → c < 128
unfolding is_letter
letter_ascii c e = grind (arith, e)

letter_value_small : (c : ℕ) → is_letter c ≡ true → letter_value c < 128
unfolding letter_value
letter_value_small c h = let lt = letter_ascii c h in grind (arith, lt)

pub letter_read : (s bytes : List ℕ) (c : ℕ) (rest : List ℕ) (d : ℕ) → bytes ≡ c ∷ rest → is_letter c ≡ true → d ≡ letter_value c → text_run slash s bytes ≡ text_run bare (s ++ encode_utf8 d) rest
unfolding in_text
letter_read s bytes c rest d e h is =
    let small : letter_value c < 128 = letter_value_small c h in
    let one : encode_utf8 d ≡ letter_value c ∷ [] = ap encode_utf8 is ∙ encode_ascii (letter_value c) small in
    ap (text_run slash s) e ∙ run_step slash s c rest (goes bare (s ++ letter_value c ∷ [])) (rw (letter_no_u c h, h) refl) ∙ ap (λ (x : List ℕ). text_run bare (s ++ x) rest) (sym one)

pub no_letter : (s bytes : List ℕ) (c : ℕ) (rest : List ℕ) → bytes ≡ c ∷ rest → (c == letter_u) ≡ false → is_letter c ≡ false → text_run slash s bytes ≡ told kinds.Syntax (length bytes)
unfolding in_text
no_letter s bytes c rest e n h = rw e (text_stops slash s c rest (rw (n, h) refl))

-- ---- what a call answers, for its caller

pub breaks_through : {X : Type 0} (r : Result X Stop) (P Q : Stop → Type 0) → ((e : Stop) → P e → Q e) → IfErr r P → IfErr r Q
breaks_through (Ok x) P Q f h = h
breaks_through (Err e) P Q f h = f e h

pub reads_through : {X : Type 0} (r : Result X Stop) (P Q : X → Type 0) → ((x : X) → P x → Q x) → IfOk r P → IfOk r Q
reads_through (Ok x) P Q f h = f x h
reads_through (Err e) P Q f h = h

-- ---- plain bytes

plain_reach : (s u : List ℕ) → ArePlain u → text_reach bare s u ≡ goes bare (s ++ u)
unfolding in_text
plain_reach s [] h = ap (goes bare) (sym (append-nil s))
plain_reach s (c ∷ u) h = rw (plain_no_quote c h.0, plain_no_backslash c h.0, h.0) (plain_reach (s ++ c ∷ []) u h.1 ∙ ap (goes bare) (append_assoc s (c ∷ []) u))

-- over the plain bytes in front
pub plain_run : (bytes s rest u v t : List ℕ) → text_run bare [] bytes ≡ text_run bare s rest → rest ≡ u ++ v → ArePlain u → t ≡ s ++ u → text_run bare [] bytes ≡ text_run bare t v
plain_run bytes s rest u v t so_far parts h e =
    so_far ∙ ap (text_run bare s) parts ∙ run_reach bare s u v bare (s ++ u) (plain_reach s u h) ∙ ap (λ (x : List ℕ). text_run bare x v) (sym e)

pub to_end : (s xs rest : List ℕ) → xs ≡ quote ∷ rest → text_run bare s xs ≡ closed s rest
unfolding in_text
to_end s xs rest e = ap (text_run bare s) e ∙ run_step bare s quote rest ends refl

pub to_escape : (s xs rest : List ℕ) → xs ≡ backslash ∷ rest → text_run bare s xs ≡ text_run slash s rest
unfolding in_text
to_escape s xs rest e = ap (text_run bare s) e ∙ run_step bare s backslash rest (goes slash s) refl

-- neither a plain byte, a quote nor a backslash stands first
pub text_halts : (s xs : List ℕ) → NoPlainFirst xs → FirstIsNot quote xs → FirstIsNot backslash xs → text_run bare s xs ≡ told kinds.Syntax (length xs)
unfolding in_text
text_halts s [] p q b = text_empty bare s
text_halts s (c ∷ xs) p q b = text_stops bare s c xs (rw (q, b, p) refl)
