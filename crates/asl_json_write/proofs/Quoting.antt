-- A text as it is written: its bytes are pieces, and no pieces of the text are shorter.
use Rattle.std.proofs.Common.{◌≡◌, ℕ, zero, suc, ◌+◌, ◌/◌, ◌%◌, ◌<◌, ◌≤◌, Bool, true, false, cond, nat_le, nat_lt, ◌==◌, ◌&&◌, ◌||◌, not, List, [], ◌∷◌, ◌++◌, length, encode_utf8, Option, Some, None, inl, inr, refl, sym, ap, subst, ◌∙◌, append_assoc, arith}
use Rattle.std.proofs.lemmas.List.{length-append}
use Rattle.std.proofs.lemmas.Bool.{and_parts, cases_eq, eqb-true, not-true, or_parts}
use Rattle.std.proofs.lemmas.Str.{encode_ascii, digit_value-digit_char}
use lib.Utf8.{encode}
use Rattle.std.specs.Char.{digit_value, digit_char}
use Rattle.std.specs.Char.Utf16.{surrogate_pair_char}
use Rattle.asl_json_data.specs.Text.{quote, backslash, is_plain, ArePlain, is_letter, letter_value, is_hex, quad, unit_of, Piece, plain, short, single, pair, IsPiece, spelled, meant, ArePieces, all_spelled, all_meant, SpellsText}
use Rattle.asl_json_data.specs.Compact.{control_letter, escaped_control, escaped_byte, escaped, quoted}

-- ---- below a number

abbrev all_below : (ℕ → Bool) → ℕ → Bool
all_below p zero = true
all_below p (suc n) = p n && all_below p n

below : (p : ℕ → Bool) (n : ℕ) → all_below p n ≡ true → (x : ℕ) → x < n → p x ≡ true
below p zero e x lt = absurd (omega arith)
below p (suc n) e x lt =
    let h = and_parts (p n) (all_below p n) e in
    elim (cases_eq x n) [ inl same ↦ subst (λ (y : ℕ). p y ≡ true) (sym same) h.0 | inr other ↦ below p n h.1 x (omega arith) ]

-- ---- the piece of a byte

abbrev control_piece : ℕ → Option ℕ → Piece
control_piece c (Some letter) = short letter
control_piece c None = single (quad 48 48 (digit_char (c / 16)) (digit_char (c % 16)))

abbrev piece_of : ℕ → Piece
piece_of c = cond ((c == quote) || (c == backslash)) (short c) (cond (nat_lt c 32) (control_piece c (control_letter c)) (plain c))

abbrev pieces_of : List ℕ → List Piece
pieces_of [] = []
pieces_of (c ∷ cs) = piece_of c ∷ pieces_of cs

-- what a piece is to be for a byte
record Writes (c : ℕ) (t : List ℕ) (p : Piece) : Type 0 where
  pub piece_is : IsPiece p
  pub spelled_is : spelled p ≡ t
  pub meant_is : meant p ≡ c ∷ []

good_digit : ℕ → Bool
good_digit d = is_hex (digit_char d)

digits_good : all_below good_digit 16 ≡ true
unfolding is_hex good_digit
digits_good = refl

digit_is_hex : (d : ℕ) → d < 16 → is_hex (digit_char d) ≡ true
unfolding good_digit
digit_is_hex d lt = below good_digit 16 digits_good d lt

-- the unit of 00 and two digits
control_unit : (c : ℕ) → c < 32 → unit_of (quad 48 48 (digit_char (c / 16)) (digit_char (c % 16))) ≡ c
unfolding unit_of
control_unit c lt =
    let high : digit_value (digit_char (c / 16)) ≡ c / 16 = digit_value-digit_char (c / 16) (omega arith) in
    let low : digit_value (digit_char (c % 16)) ≡ c % 16 = digit_value-digit_char (c % 16) (omega arith) in
    rw (high, low) (omega arith)

digits_write : (c : ℕ) → c < 32 → Writes c (escaped_control c None) (single (quad 48 48 (digit_char (c / 16)) (digit_char (c % 16))))
unfolding is_hex
digits_write c lt =
    let q = quad 48 48 (digit_char (c / 16)) (digit_char (c % 16)) in
    let unit : unit_of q ≡ c = control_unit c lt in
    record {
      piece_is = ((refl, (refl, (digit_is_hex (c / 16) (omega arith), digit_is_hex (c % 16) (omega arith)))), (rw unit (no_half 0xD800 0xDC00 c (omega arith)), rw unit (no_half 0xDC00 0xE000 c (omega arith))));
      spelled_is = refl;
      meant_is = ap encode_utf8 unit ∙ encode_ascii c (omega arith);
    }
  where
    no_half : (from to c : ℕ) → c < from → (nat_le from c && nat_lt c to) ≡ false
    no_half from to c lt = let below : nat_le from c ≡ false = grind (arith, lt) in rw below refl

letter_writes : (c l : ℕ) → (c == letter_value l) ≡ true → is_letter l ≡ true → Writes c (escaped_control c (Some l)) (short l)
letter_writes c l e h = record { piece_is = h; spelled_is = refl; meant_is = ap (λ (x : ℕ). x ∷ []) (sym (eqb-true c (letter_value l) e)) }

by_case : (c : ℕ) (t u : List ℕ) (p q : Piece) (b : Bool) → (b ≡ true → Writes c t p) → (b ≡ false → Writes c u q) → Writes c (cond b t u) (cond b p q)
by_case c t u p q true f g = f refl
by_case c t u p q false f g = g refl

-- one letter, or the next
by_letter : (c : ℕ) (b : Bool) (l : ℕ) (o : Option ℕ) → (b ≡ true → Writes c (escaped_control c (Some l)) (short l)) → (b ≡ false → Writes c (escaped_control c o) (control_piece c o)) → Writes c (escaped_control c (cond b (Some l) o)) (control_piece c (cond b (Some l) o))
by_letter c true l o f g = f refl
by_letter c false l o f g = g refl

control_writes : (c : ℕ) → c < 32 → Writes c (escaped_control c (control_letter c)) (control_piece c (control_letter c))
unfolding control_letter letter_value is_letter
control_writes c lt =
    by_letter c (c == 8) 98 _ (λ e. letter_writes c 98 e refl) (λ _.
    by_letter c (c == 9) 116 _ (λ e. letter_writes c 116 e refl) (λ _.
    by_letter c (c == 10) 110 _ (λ e. letter_writes c 110 e refl) (λ _.
    by_letter c (c == 12) 102 _ (λ e. letter_writes c 102 e refl) (λ _.
    by_letter c (c == 13) 114 _ (λ e. letter_writes c 114 e refl) (λ _. digits_write c lt)))))

quote_writes : (c : ℕ) → ((c == quote) || (c == backslash)) ≡ true → Writes c (backslash ∷ c ∷ []) (short c)
unfolding is_letter letter_value
quote_writes c e = told (c == quote) refl e
  where
    is_quote : Writes quote (backslash ∷ quote ∷ []) (short quote)
    is_quote = record { piece_is = refl; spelled_is = refl; meant_is = refl }

    is_backslash : Writes backslash (backslash ∷ backslash ∷ []) (short backslash)
    is_backslash = record { piece_is = refl; spelled_is = refl; meant_is = refl }

    told : (x : Bool) → (c == quote) ≡ x → (x || (c == backslash)) ≡ true → Writes c (backslash ∷ c ∷ []) (short c)
    told true e h = subst (λ (x : ℕ). Writes x (backslash ∷ x ∷ []) (short x)) (sym (eqb-true c quote e)) is_quote
    told false e h = subst (λ (x : ℕ). Writes x (backslash ∷ x ∷ []) (short x)) (sym (eqb-true c backslash h)) is_backslash

plain_writes : (c : ℕ) → ((c == quote) || (c == backslash)) ≡ false → nat_lt c 32 ≡ false → Writes c (c ∷ []) (plain c)
unfolding is_plain
plain_writes c e f =
    let n = or_parts (c == quote) (c == backslash) e in
    let large : nat_le 32 c ≡ true = grind (arith, f) in
    record { piece_is = rw (large, n.0, n.1) refl; spelled_is = refl; meant_is = refl }

byte_writes : (c : ℕ) → Writes c (escaped_byte c) (piece_of c)
unfolding escaped_byte
byte_writes c =
    by_case c _ _ _ _ ((c == quote) || (c == backslash)) (λ e. quote_writes c e) (λ e.
    by_case c _ _ _ _ (nat_lt c 32) (λ f. control_writes c (grind (arith, f))) (λ f. plain_writes c e f))

pieces_are : (s : List ℕ) → ArePieces (pieces_of s)
pieces_are [] = tt
pieces_are (c ∷ s) = ((byte_writes c).piece_is, pieces_are s)

pieces_spell : (s : List ℕ) → escaped s ≡ all_spelled (pieces_of s)
pieces_spell [] = refl
pieces_spell (c ∷ s) = ap (λ (x : List ℕ). x ++ escaped s) (sym (byte_writes c).spelled_is) ∙ ap (λ (x : List ℕ). spelled (piece_of c) ++ x) (pieces_spell s)

pieces_mean : (s : List ℕ) → s ≡ all_meant (pieces_of s)
pieces_mean [] = refl
pieces_mean (c ∷ s) = ap (λ (x : List ℕ). c ∷ x) (pieces_mean s) ∙ ap (λ (x : List ℕ). x ++ all_meant (pieces_of s)) (sym (byte_writes c).meant_is)

pub quoted_spells : (s : List ℕ) → SpellsText s (quoted s)
quoted_spells s = record { inner = escaped s; parts = refl; inner_is = record { pieces = pieces_of s; pieces_are = pieces_are s; spelled_is = pieces_spell s; meant_is = pieces_mean s } }

-- ---- no pieces are shorter

pub escaped-append : (s t : List ℕ) → escaped (s ++ t) ≡ escaped s ++ escaped t
escaped-append [] t = refl
escaped-append (c ∷ s) t = ap (λ (x : List ℕ). escaped_byte c ++ x) (escaped-append s t) ∙ sym (append_assoc (escaped_byte c) (escaped s) (escaped t))

pub escaped_plain : (c : ℕ) → is_plain c ≡ true → escaped_byte c ≡ c ∷ []
unfolding escaped_byte is_plain
escaped_plain c e =
    let p = and_parts (nat_le 32 c && not (c == 34)) (not (c == 92)) e in
    let r = and_parts (nat_le 32 c) (not (c == 34)) p.0 in
    let no_quote : (c == quote) ≡ false = not-true (c == 34) r.1 in
    let no_backslash : (c == backslash) ≡ false = not-true (c == 92) p.1 in
    let large : nat_lt c 32 ≡ false = grind (arith, r.0) in
    rw (no_quote, no_backslash, large) refl

control_length : (c : ℕ) (o : Option ℕ) → length (escaped_control c o) ≤ 6
control_length c (Some l) = omega arith
control_length c None = omega arith

byte_length : (c : ℕ) → length (escaped_byte c) ≤ 6
unfolding escaped_byte
byte_length c = told ((c == quote) || (c == backslash)) (nat_lt c 32)
  where
    told : (x y : Bool) → length (cond x (backslash ∷ c ∷ []) (cond y (escaped_control c (control_letter c)) (c ∷ []))) ≤ 6
    told true y = omega arith
    told false true = control_length c (control_letter c)
    told false false = omega arith

escaped_high : (c : ℕ) → 128 ≤ c → escaped_byte c ≡ c ∷ []
unfolding is_plain
escaped_high c h =
    let large : nat_le 32 c ≡ true = grind (arith, h) in
    let no_quote : (c == 34) ≡ false = grind (arith, h) in
    let no_backslash : (c == 92) ≡ false = grind (arith, h) in
    escaped_plain c (rw (large, no_quote, no_backslash) refl)

one_length : (c : ℕ) → length (escaped (c ∷ [])) ≤ 6
one_length c = omega (arith, byte_length c, length-append (escaped_byte c) [])

encoded_length : (c : ℕ) → length (escaped (encode_utf8 c)) ≤ 6
unfolding encode
encoded_length c = told (nat_lt c 128) (nat_lt c 2048) (nat_lt c 65536)
  where
    high_2 : (a b : ℕ) → 128 ≤ a → 128 ≤ b → length (escaped (a ∷ b ∷ [])) ≤ 6
    high_2 a b h i = rw (escaped_high a h, escaped_high b i) (omega arith)

    high_3 : (a b c : ℕ) → 128 ≤ a → 128 ≤ b → 128 ≤ c → length (escaped (a ∷ b ∷ c ∷ [])) ≤ 6
    high_3 a b c h i j = rw (escaped_high a h, escaped_high b i, escaped_high c j) (omega arith)

    high_4 : (a b c d : ℕ) → 128 ≤ a → 128 ≤ b → 128 ≤ c → 128 ≤ d → length (escaped (a ∷ b ∷ c ∷ d ∷ [])) ≤ 6
    high_4 a b c d h i j k = rw (escaped_high a h, escaped_high b i, escaped_high c j, escaped_high d k) (omega arith)

    told : (x y z : Bool) → length (escaped (cond x (c ∷ []) (cond y ((192 + c / 64) ∷ (128 + c % 64) ∷ []) (cond z ((224 + c / 4096) ∷ (128 + (c / 64) % 64) ∷ (128 + c % 64) ∷ []) ((240 + c / 262144) ∷ (128 + (c / 4096) % 64) ∷ (128 + (c / 64) % 64) ∷ (128 + c % 64) ∷ []))))) ≤ 6
    told true y z = one_length c
    told false true z = high_2 _ _ (omega arith) (omega arith)
    told false false true = high_3 _ _ _ (omega arith) (omega arith) (omega arith)
    told false false false = high_4 _ _ _ _ (omega arith) (omega arith) (omega arith) (omega arith)

-- a letter's byte takes two
short_good : ℕ → Bool
short_good c = not (is_letter c) || nat_le (length (escaped_byte (letter_value c))) 2

shorts_good : all_below short_good 128 ≡ true
unfolding short_good is_letter letter_value escaped_byte control_letter
shorts_good = refl

letter_small : (c : ℕ) → is_letter c ≡ true → c < 128
unfolding is_letter
letter_small c e = grind (arith, e)

short_length : (c : ℕ) → is_letter c ≡ true → length (escaped (letter_value c ∷ [])) ≤ 2
unfolding short_good
short_length c e =
    let good : (not (is_letter c) || nat_le (length (escaped_byte (letter_value c))) 2) ≡ true = below short_good 128 shorts_good c (letter_small c e) in
    let bound : nat_le (length (escaped_byte (letter_value c))) 2 ≡ true = rw e at good in
    let le : length (escaped_byte (letter_value c)) ≤ 2 = grind (arith, bound) in
    omega (arith, le, length-append (escaped_byte (letter_value c)) [])

piece_length : (p : Piece) → IsPiece p → length (escaped (meant p)) ≤ length (spelled p)
piece_length (plain c) h = rw (escaped_plain c h) (omega arith)
piece_length (short c) h = short_length c h
piece_length (single (quad a b c d)) h = encoded_length (unit_of (quad a b c d))
piece_length (pair (quad a b c d) (quad e f g i)) h = omega (arith, encoded_length (surrogate_pair_char (unit_of (quad a b c d)) (unit_of (quad e f g i))))

pieces_length : (ps : List Piece) → ArePieces ps → length (escaped (all_meant ps)) ≤ length (all_spelled ps)
pieces_length [] h = omega arith
pieces_length (p ∷ ps) h =
    omega (arith, piece_length p h.0, pieces_length ps h.1, ap length (escaped-append (meant p) (all_meant ps)), length-append (escaped (meant p)) (escaped (all_meant ps)), length-append (spelled p) (all_spelled ps))

pub text_length : (s t : List ℕ) → SpellsText s t → length (quoted s) ≤ length t
text_length s t h =
    let i = h.inner_is in
    let least : length (escaped s) ≤ length h.inner = rw (i.spelled_is, i.meant_is) (pieces_length i.pieces i.pieces_are) in
    omega (arith, least, ap length h.parts, length-append h.inner (quote ∷ []), length-append (escaped s) (quote ∷ []))

-- ---- a turn of the writer

pub escaped_plains : (u v : List ℕ) → ArePlain u → escaped (u ++ v) ≡ u ++ escaped v
escaped_plains [] v h = refl
escaped_plains (c ∷ u) v h = rw (escaped_plain c h.0, escaped_plains u v h.1) refl

pub written : (old new rest u behind : List ℕ) → rest ≡ u ++ behind → ArePlain u → new ≡ old ++ u → new ++ escaped behind ≡ old ++ escaped rest
written old new rest u behind parts h e =
    ap (λ (x : List ℕ). x ++ escaped behind) e ∙ append_assoc old u (escaped behind) ∙ ap (λ (x : List ℕ). old ++ x) (sym (ap escaped parts ∙ escaped_plains u behind h))

pub written_byte : (new next behind rest : List ℕ) (c : ℕ) → behind ≡ c ∷ rest → next ≡ new ++ escaped_byte c → next ++ escaped rest ≡ new ++ escaped behind
written_byte new next behind rest c e f = ap (λ (x : List ℕ). x ++ escaped rest) f ∙ append_assoc new (escaped_byte c) (escaped rest) ∙ ap (λ (x : List ℕ). new ++ x) (sym (ap escaped e))
