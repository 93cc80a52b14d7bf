-- Reading within a text: what each byte does, and that pieces are gone over.
use Rattle.std.proofs.Common.{◌≡◌, ℕ, suc, ◌+◌, ◌*◌, ◌<◌, ◌≤◌, Bool, true, false, cond, nat_le, nat_lt, ◌==◌, ◌&&◌, ◌||◌, not, List, [], ◌∷◌, ◌++◌, length, encode_utf8, refl, sym, ap, subst, ◌∙◌, append_assoc, arith}
use Rattle.std.proofs.lemmas.List.{append-nil, length-append}
use Rattle.std.proofs.lemmas.Bool.{and_from, and_parts, eq-eqb, eqb-true, false_from_ne_true, not-true}
use Rattle.std.specs.Char.{digit_value}
use Rattle.std.specs.Char.Utf16.{is_high_surrogate, is_low_surrogate, surrogate_pair_char}
use Rattle.asl_json_data.specs.Text.{quote, backslash, letter_u, is_plain, is_letter, is_hex, Quad, quad, digits_of, AreHex, unit_of, begins_low, Piece, plain, short, single, pair, IsPiece, escape, spelled, meant, ArePieces, all_spelled, all_meant, SpellsChars, SpellsText, Lone, low, high, high_letter, high_first, high_second, IsHigh, IsLone, lone_spelled}
use Rattle.asl_json_scan.specs.private.Chars.{Within, bare, slash, unit_0, unit_1, unit_2, unit_3, half, half_slash, low_0, low_1, low_2, low_3, Inside, goes, ends, breaks, lone, on_unit, in_text, closed, told, text_onward, text_run}
use Rattle.asl_json_scan.specs.declared.fault.Kind.TheVariants as kinds

-- ---- bytes

same_truth : (a b : Bool) → (a ≡ true → b ≡ true) → (b ≡ true → a ≡ true) → a ≡ b
same_truth true b f g = sym (f refl)
same_truth false true f g = g refl
same_truth false false f g = refl

pub plain_no_quote : (c : ℕ) → is_plain c ≡ true → (c == quote) ≡ false
unfolding is_plain
plain_no_quote c e = not-true (c == quote) (and_parts _ _ (and_parts _ _ e).0).1

pub plain_no_backslash : (c : ℕ) → is_plain c ≡ true → (c == backslash) ≡ false
unfolding is_plain
plain_no_backslash c e = not-true (c == backslash) (and_parts _ _ e).1

pub letter_no_u : (c : ℕ) → is_letter c ≡ true → (c == letter_u) ≡ false
unfolding is_letter
letter_no_u c e = grind (arith, e)

pub hex_small : (c : ℕ) → is_hex c ≡ true → digit_value c < 16
unfolding is_hex
hex_small c e = grind (arith, e)

low_number : (a b c d : ℕ) → a < 16 → b < 16 → c < 16 → d < 16 → is_low_surrogate (((a * 16 + b) * 16 + c) * 16 + d) ≡ ((a == 13) && nat_le 12 b)
low_number a b c d ha hb hc hd = same_truth _ _ forth back
  where
    forth : is_low_surrogate (((a * 16 + b) * 16 + c) * 16 + d) ≡ true → ((a == 13) && nat_le 12 b) ≡ true
    forth e =
        let u = ((a * 16 + b) * 16 + c) * 16 + d in
        let p = and_parts (nat_le 56320 u) (nat_lt u 57344) e in
        let lower : 56320 ≤ u = grind (arith, p.0) in
        let upper : u < 57344 = grind (arith, p.1) in
        let is : a ≡ 13 = omega (arith, lower, upper, ha, hb, hc, hd) in
        let from : 12 ≤ b = omega (arith, lower, upper, ha, hb, hc, hd) in
        and_from (a == 13) (nat_le 12 b) (eq-eqb a 13 is) (grind (arith, from))

    back : ((a == 13) && nat_le 12 b) ≡ true → is_low_surrogate (((a * 16 + b) * 16 + c) * 16 + d) ≡ true
    back e =
        let p = and_parts (a == 13) (nat_le 12 b) e in
        let is : a ≡ 13 = eqb-true a 13 p.0 in
        let from : 12 ≤ b = grind (arith, p.1) in
        let lower : 56320 ≤ ((a * 16 + b) * 16 + c) * 16 + d = omega (arith, is, from, hb, hc, hd) in
        let upper : ((a * 16 + b) * 16 + c) * 16 + d < 57344 = omega (arith, is, from, hb, hc, hd) in
        let u = ((a * 16 + b) * 16 + c) * 16 + d in
        and_from (nat_le 56320 u) (nat_lt u 57344) (grind (arith, lower)) (grind (arith, upper))

high_number : (a b c d : ℕ) → a < 16 → b < 16 → c < 16 → d < 16 → is_high_surrogate (((a * 16 + b) * 16 + c) * 16 + d) ≡ true → ((a == 13) && nat_le 12 b) ≡ false
high_number a b c d ha hb hc hd e = false_from_ne_true _ (λ f.
    let u = ((a * 16 + b) * 16 + c) * 16 + d in
    let p = and_parts (a == 13) (nat_le 12 b) f in
    let is : a ≡ 13 = eqb-true a 13 p.0 in
    let from : 12 ≤ b = grind (arith, p.1) in
    let q = and_parts (nat_le 55296 u) (nat_lt u 56320) e in
    let upper : u < 56320 = grind (arith, q.1) in
    omega (arith, is, from, upper, hb, hc, hd))

-- a low half is one by its first two digits
pub low_begins : (a b c d : ℕ) → AreHex (quad a b c d) → is_low_surrogate (unit_of (quad a b c d)) ≡ begins_low a b
unfolding unit_of begins_low
low_begins a b c d h = low_number (digit_value a) (digit_value b) (digit_value c) (digit_value d) (hex_small a h.0) (hex_small b h.1.0) (hex_small c h.1.1.0) (hex_small d h.1.1.1)

pub high_begins : (a b c d : ℕ) → AreHex (quad a b c d) → is_high_surrogate (unit_of (quad a b c d)) ≡ true → begins_low a b ≡ false
unfolding unit_of begins_low
high_begins a b c d h e = high_number (digit_value a) (digit_value b) (digit_value c) (digit_value d) (hex_small a h.0) (hex_small b h.1.0) (hex_small c h.1.1.0) (hex_small d h.1.1.1) e

pub low_first : (a b : ℕ) → begins_low a b ≡ true → (digit_value a == 13) ≡ true
unfolding begins_low
low_first a b e = (and_parts _ _ e).0

-- ---- several bytes

abbrev pub inside_then : (Within → List ℕ → Inside) → Inside → Inside
inside_then f (goes q s) = f q s
inside_then f ends = ends
inside_then f breaks = breaks
inside_then f (lone back) = lone back

abbrev pub text_reach : Within → List ℕ → List ℕ → Inside
text_reach q s [] = goes q s
text_reach q s (c ∷ cs) = inside_then (λ q' s'. text_reach q' s' cs) (in_text q s c)

pub goes_is : (q r : Within) (s t : List ℕ) → goes q s ≡ goes r t → (q ≡ r) × (s ≡ t)
goes_is q r s t e = (cc, cc)

reach_then : (u v : List ℕ) (r : Within) (t : List ℕ) (n : Inside) → ((q : Within) (s : List ℕ) → text_reach q s u ≡ goes r t → text_reach q s (u ++ v) ≡ text_reach r t v)
    → inside_then (λ q s. text_reach q s u) n ≡ goes r t → inside_then (λ q s. text_reach q s (u ++ v)) n ≡ text_reach r t v
reach_then u v r t (goes q s) h e = h q s e
reach_then u v r t x h e = absurd cc

pub text_reach-append : (q : Within) (s u v : List ℕ) (r : Within) (t : List ℕ) → text_reach q s u ≡ goes r t → text_reach q s (u ++ v) ≡ text_reach r t v
text_reach-append q s [] v r t e = let is = goes_is q r s t e in ap (λ (x : Within). text_reach x s v) is.0 ∙ ap (λ (x : List ℕ). text_reach r x v) is.1
text_reach-append q s (c ∷ u) v r t e = reach_then u v r t (in_text q s c) (λ q' s' d. text_reach-append q' s' u v r t d) e

-- ---- pieces

-- the digits of a unit that is no low half
pub digits_reach : (s : List ℕ) (q : Quad) → AreHex q → is_low_surrogate (unit_of q) ≡ false → text_reach unit_0 s (digits_of q) ≡ on_unit s q
unfolding in_text
digits_reach s (quad a b c d) h n = let begins : begins_low a b ≡ false = sym (low_begins a b c d h) ∙ n in rw (h.0, h.1.0, begins, h.1.1.0, h.1.1.1) (whole (on_unit s (quad a b c d)))
  where
    whole : (n : Inside) → inside_then (λ q' s'. goes q' s') n ≡ n
    whole (goes q s) = refl
    whole ends = refl
    whole breaks = refl
    whole (lone back) = refl

escape_to_unit : (s : List ℕ) (q : Quad) → AreHex q → is_low_surrogate (unit_of q) ≡ false → text_reach bare s (escape q) ≡ on_unit s q
unfolding in_text is_plain is_letter
escape_to_unit s (quad a b c d) h n = digits_reach s (quad a b c d) h n

not_low : (q : Quad) → IsHigh q → is_low_surrogate (unit_of q) ≡ false
not_low (quad a b c d) h = low_begins a b c d h.0 ∙ high_begins a b c d h.0 h.1

pub high_reach : (s : List ℕ) (q : Quad) → IsHigh q → text_reach bare s (escape q) ≡ goes (half q) s
unfolding on_unit
high_reach s q h = escape_to_unit s q h.0 (not_low q h) ∙ rw h.1 refl

pub low_reach : (s : List ℕ) (q r : Quad) → AreHex r → is_low_surrogate (unit_of r) ≡ true → text_reach (half q) s (escape r) ≡ goes bare (s ++ encode_utf8 (surrogate_pair_char (unit_of q) (unit_of r)))
unfolding in_text
low_reach s q (quad a b c d) h l =
    let begins : begins_low a b ≡ true = sym (low_begins a b c d h) ∙ l in
    let first = low_first a b begins in
    rw (h.0, first, h.1.0, begins, h.1.1.0, h.1.1.1) refl

pub piece_reach : (s : List ℕ) (p : Piece) → IsPiece p → text_reach bare s (spelled p) ≡ goes bare (s ++ meant p)
unfolding in_text on_unit
piece_reach s (plain c) h = rw (plain_no_quote c h, plain_no_backslash c h, h) refl
piece_reach s (short c) h = rw (letter_no_u c h, h) refl
piece_reach s (single q) h = escape_to_unit s q h.0 h.1.1 ∙ rw h.1.0 refl
piece_reach s (pair q r) h = text_reach-append bare s (escape q) (escape r) (half q) s (high_reach s q h.0) ∙ low_reach s q r h.1.0 h.1.1

pub pieces_reach : (s : List ℕ) (ps : List Piece) → ArePieces ps → text_reach bare s (all_spelled ps) ≡ goes bare (s ++ all_meant ps)
pieces_reach s [] h = ap (goes bare) (sym (append-nil s))
pieces_reach s (p ∷ ps) h =
    text_reach-append bare s (spelled p) (all_spelled ps) bare (s ++ meant p) (piece_reach s p h.0)
    ∙ pieces_reach (s ++ meant p) ps h.1
    ∙ ap (goes bare) (append_assoc s (meant p) (all_meant ps))

pub chars_reach : (p s u : List ℕ) → SpellsChars s u → text_reach bare p u ≡ goes bare (p ++ s)
chars_reach p s u h = rw (h.spelled_is, h.meant_is) (pieces_reach p h.pieces h.pieces_are)

-- ---- the whole of a text

run_then : (u rest : List ℕ) (n : Inside) (s : List ℕ) (back : ℕ) (r : Within) (t : List ℕ) → ((q : Within) (x : List ℕ) → text_reach q x u ≡ goes r t → text_run q x (u ++ rest) ≡ text_run r t rest)
    → inside_then (λ q x. text_reach q x u) n ≡ goes r t → text_onward (λ q x. text_run q x (u ++ rest)) s (u ++ rest) n ≡ text_run r t rest
run_then u rest (goes q x) s back r t h e = h q x e
run_then u rest x s back r t h e = absurd cc

pub run_reach : (q : Within) (s u rest : List ℕ) (r : Within) (t : List ℕ) → text_reach q s u ≡ goes r t → text_run q s (u ++ rest) ≡ text_run r t rest
unfolding text_run
run_reach q s [] rest r t e = let is = goes_is q r s t e in ap (λ (x : Within). text_run x s rest) is.0 ∙ ap (λ (x : List ℕ). text_run r x rest) is.1
run_reach q s (c ∷ u) rest r t e = run_then u rest (in_text q s c) s 0 r t (λ q' s' d. run_reach q' s' u rest r t d) e

-- one byte
pub run_step : (q : Within) (s : List ℕ) (c : ℕ) (rest : List ℕ) (n : Inside) → in_text q s c ≡ n → text_run q s (c ∷ rest) ≡ text_onward (λ q' s'. text_run q' s' rest) s rest n
unfolding text_run
run_step q s c rest n e = ap (text_onward (λ q' s'. text_run q' s' rest) s rest) e

closed_is : (s t u v : List ℕ) → closed s u ≡ closed t v → u ≡ v
closed_is s t u v e = cc

shorter_then : (cs s : List ℕ) (n : Inside) (t rest : List ℕ) → ((q : Within) (x : List ℕ) → text_run q x cs ≡ closed t rest → length rest < length cs) → text_onward (λ q x. text_run q x cs) s cs n ≡ closed t rest → length rest < suc (length cs)
shorter_then cs s (goes q x) t rest h e = let lt = h q x e in omega arith
shorter_then cs s ends t rest h e = omega (arith, ap length (closed_is s t cs rest e))
shorter_then cs s breaks t rest h e = absurd cc
shorter_then cs s (lone k) t rest h e = absurd cc

pub closed_shorter : (q : Within) (s bytes t rest : List ℕ) → text_run q s bytes ≡ closed t rest → length rest < length bytes
unfolding text_run
closed_shorter q s [] t rest e = absurd cc
closed_shorter q s (c ∷ cs) t rest e = shorter_then cs s (in_text q s c) t rest (λ q' x d. closed_shorter q' x cs t rest d) e

-- ---- a half without a partner

-- behind these bytes the next one tells
tells : (q : Within) (s u : List ℕ) (r : Within) (t : List ℕ) (c back : ℕ) (post : List ℕ) → text_reach q s u ≡ goes r t → in_text r t c ≡ lone back → length u ≡ back → text_run q s (u ++ c ∷ post) ≡ told kinds.Lone (length (u ++ c ∷ post))
tells q s u r t c back post e f n =
    let count : back + suc (length post) ≡ length (u ++ c ∷ post) = omega (arith, n, length-append u (c ∷ post)) in
    run_reach q s u (c ∷ post) r t e ∙ run_step r t c post (lone back) f ∙ ap (told kinds.Lone) count

-- with what a high half has in front
tells_high : (s : List ℕ) (q : Quad) (u : List ℕ) (r : Within) (c back : ℕ) (post : List ℕ) → IsHigh q → text_reach (half q) s u ≡ goes r s → in_text r s c ≡ lone back → 6 + length u ≡ back
    → text_run bare s ((escape q ++ (u ++ c ∷ [])) ++ post) ≡ told kinds.Lone (length ((escape q ++ (u ++ c ∷ [])) ++ post))
tells_high s (quad w x y z) u r c back post h e f n =
    let q = quad w x y z in
    let same : (escape q ++ (u ++ c ∷ [])) ++ post ≡ (escape q ++ u) ++ c ∷ post = simp append_assoc in
    let count : length (escape q ++ u) ≡ back = omega (arith, n, length-append (escape q) u) in
    subst (λ (x : List ℕ). text_run bare s x ≡ told kinds.Lone (length x)) (sym same) (tells bare s (escape q ++ u) r s c back post (text_reach-append bare s (escape q) u (half q) s (high_reach s q h) ∙ e) f count)

pub run_lone : (s : List ℕ) (l : Lone) (post : List ℕ) → IsLone l → text_run bare s (lone_spelled l ++ post) ≡ told kinds.Lone (length (lone_spelled l ++ post))
unfolding in_text
run_lone s (low a b) post h = tells bare s (backslash ∷ letter_u ∷ a ∷ []) (unit_1 a) s b 3 post (rw h.0 refl) (rw (h.1.0, h.1.1) refl) refl
run_lone s (high q c) post h = tells_high s q [] (half q) c 6 post h.0 refl (no_slash c h.1) refl
  where
    other : (x : Bool) (c : ℕ) → (c == quote) ≡ x → (x || is_plain c) ≡ true → (c == backslash) ≡ false
    other true c e f = rw (eqb-true c quote e) refl
    other false c e f = plain_no_backslash c f

    no_slash : (c : ℕ) → ((c == quote) || is_plain c) ≡ true → in_text (half q) s c ≡ lone 6
    no_slash c f = rw (other (c == quote) c refl f, f) refl
run_lone s (high_letter q c) post h = tells_high s q (backslash ∷ []) (half_slash q) c 7 post h.0 refl (rw (letter_no_u c h.1, h.1) refl) refl
run_lone s (high_first q a) post h = tells_high s q (backslash ∷ letter_u ∷ []) (low_0 q) a 8 post h.0 refl (rw (h.1.0, h.1.1) refl) refl
run_lone s (high_second q a b) post h = tells_high s q (backslash ∷ letter_u ∷ a ∷ []) (low_1 q a) b 9 post h.0 (rw (h.1.0, h.1.1.1.0) refl) (rw (h.1.1.0, h.1.1.1.1) refl) refl

-- ---- what stands behind the opening quote

-- a part of a piece
abbrev pub partial : Within → List ℕ
partial bare = []
partial slash = backslash ∷ []
partial unit_0 = backslash ∷ letter_u ∷ []
partial (unit_1 a) = backslash ∷ letter_u ∷ a ∷ []
partial (unit_2 a b) = backslash ∷ letter_u ∷ a ∷ b ∷ []
partial (unit_3 a b c) = backslash ∷ letter_u ∷ a ∷ b ∷ c ∷ []
partial (half q) = escape q
partial (half_slash q) = escape q ++ backslash ∷ []
partial (low_0 q) = escape q ++ backslash ∷ letter_u ∷ []
partial (low_1 q a) = escape q ++ backslash ∷ letter_u ∷ a ∷ []
partial (low_2 q a b) = escape q ++ backslash ∷ letter_u ∷ a ∷ b ∷ []
partial (low_3 q a b c) = escape q ++ backslash ∷ letter_u ∷ a ∷ b ∷ c ∷ []

abbrev pub IsPartial : Within → Type 0
IsPartial bare = Unit {0}
IsPartial slash = Unit {0}
IsPartial unit_0 = Unit {0}
IsPartial (unit_1 a) = is_hex a ≡ true
IsPartial (unit_2 a b) = (is_hex a ≡ true) × ((is_hex b ≡ true) × (begins_low a b ≡ false))
IsPartial (unit_3 a b c) = (is_hex a ≡ true) × ((is_hex b ≡ true) × ((begins_low a b ≡ false) × (is_hex c ≡ true)))
IsPartial (half q) = IsHigh q
IsPartial (half_slash q) = IsHigh q
IsPartial (low_0 q) = IsHigh q
IsPartial (low_1 q a) = IsHigh q × ((is_hex a ≡ true) × ((digit_value a == 13) ≡ true))
IsPartial (low_2 q a b) = IsHigh q × ((is_hex a ≡ true) × ((is_hex b ≡ true) × (begins_low a b ≡ true)))
IsPartial (low_3 q a b c) = IsHigh q × ((is_hex a ≡ true) × ((is_hex b ≡ true) × ((begins_low a b ≡ true) × (is_hex c ≡ true))))

-- a text that is open
pub record OpenText (q : Within) (s t : List ℕ) : Type 0 where
  pub inner : List ℕ
  pub parts : t ≡ quote ∷ (inner ++ partial q)
  pub inner_is : SpellsChars s inner
  pub partial_is : IsPartial q

-- a half without a partner ends with this byte
pub record LoneEnd (s t : List ℕ) (c back : ℕ) : Type 0 where
  pub inner : List ℕ
  pub half_is : Lone
  pub parts : t ++ c ∷ [] ≡ quote ∷ (inner ++ lone_spelled half_is)
  pub inner_is : SpellsChars s inner
  pub lone : IsLone half_is
  pub back_is : length (lone_spelled half_is) ≡ suc back

abbrev pub TextHolds : List ℕ → List ℕ → ℕ → Inside → Type 0
TextHolds s t c (goes q r) = OpenText q r (t ++ c ∷ [])
TextHolds s t c ends = SpellsText s (t ++ c ∷ [])
TextHolds s t c breaks = Unit {0}
TextHolds s t c (lone back) = LoneEnd s t c back

either_holds : (s t : List ℕ) (c : ℕ) (b : Bool) (x y : Inside) → (b ≡ true → TextHolds s t c x) → (b ≡ false → TextHolds s t c y) → TextHolds s t c (cond b x y)
either_holds s t c true x y p q = p refl
either_holds s t c false x y p q = q refl

pub text_opens : (c : ℕ) → (c == quote) ≡ true → OpenText bare [] (c ∷ [])
text_opens c e = record { inner = []; parts = ap (λ (y : ℕ). y ∷ []) (eqb-true c quote e); inner_is = record { pieces = []; pieces_are = tt; spelled_is = refl; meant_is = refl }; partial_is = tt }

pieces_push : (ps : List Piece) (p : Piece) → ArePieces ps → IsPiece p → ArePieces (ps ++ p ∷ [])
pieces_push [] p h e = (e, tt)
pieces_push (x ∷ ps) p h e = (h.0, pieces_push ps p h.1 e)

spelled_push : (ps : List Piece) (p : Piece) → all_spelled (ps ++ p ∷ []) ≡ all_spelled ps ++ spelled p
spelled_push [] p = append-nil (spelled p)
spelled_push (x ∷ ps) p = ap (λ (u : List ℕ). spelled x ++ u) (spelled_push ps p) ∙ sym (append_assoc (spelled x) (all_spelled ps) (spelled p))

meant_push : (ps : List Piece) (p : Piece) → all_meant (ps ++ p ∷ []) ≡ all_meant ps ++ meant p
meant_push [] p = append-nil (meant p)
meant_push (x ∷ ps) p = ap (λ (u : List ℕ). meant x ++ u) (meant_push ps p) ∙ sym (append_assoc (meant x) (all_meant ps) (meant p))

chars_push : (s u : List ℕ) (p : Piece) → SpellsChars s u → IsPiece p → SpellsChars (s ++ meant p) (u ++ spelled p)
chars_push s u p h e = record {
  pieces = h.pieces ++ p ∷ [];
  pieces_are = pieces_push h.pieces p h.pieces_are e;
  spelled_is = ap (λ (x : List ℕ). x ++ spelled p) h.spelled_is ∙ sym (spelled_push h.pieces p);
  meant_is = ap (λ (x : List ℕ). x ++ meant p) h.meant_is ∙ sym (meant_push h.pieces p);
}

-- one byte more of a piece
goes_over : (q : Within) (s t : List ℕ) (c : ℕ) (r : Within) → OpenText q s t → partial q ++ c ∷ [] ≡ partial r → IsPartial r → OpenText r s (t ++ c ∷ [])
goes_over q s t c r h e p = record {
  inner = h.inner;
  parts = ap (λ (x : List ℕ). x ++ c ∷ []) h.parts ∙ ap (λ (x : List ℕ). quote ∷ x) (append_assoc h.inner (partial q) (c ∷ []) ∙ ap (λ (x : List ℕ). h.inner ++ x) e);
  inner_is = h.inner_is;
  partial_is = p;
}

-- the last byte of a piece
completes : (q : Within) (s t : List ℕ) (c : ℕ) (p : Piece) → OpenText q s t → partial q ++ c ∷ [] ≡ spelled p → IsPiece p → OpenText bare (s ++ meant p) (t ++ c ∷ [])
completes q s t c p h e is = record {
  inner = h.inner ++ spelled p;
  parts = ap (λ (x : List ℕ). x ++ c ∷ []) h.parts ∙ ap (λ (x : List ℕ). quote ∷ x) (append_assoc h.inner (partial q) (c ∷ []) ∙ ap (λ (x : List ℕ). h.inner ++ x) e ∙ sym (append-nil (h.inner ++ spelled p)));
  inner_is = chars_push s h.inner p h.inner_is is;
  partial_is = tt;
}

stands_alone : (q : Within) (s t : List ℕ) (c : ℕ) (l : Lone) (back : ℕ) → OpenText q s t → partial q ++ c ∷ [] ≡ lone_spelled l → IsLone l → length (lone_spelled l) ≡ suc back → LoneEnd s t c back
stands_alone q s t c l back h e is n = record {
  inner = h.inner;
  half_is = l;
  parts = ap (λ (x : List ℕ). x ++ c ∷ []) h.parts ∙ ap (λ (x : List ℕ). quote ∷ x) (append_assoc h.inner (partial q) (c ∷ []) ∙ ap (λ (x : List ℕ). h.inner ++ x) e);
  inner_is = h.inner_is;
  lone = is;
  back_is = n;
}

-- the closing quote
pub text_ends : (s t : List ℕ) (c : ℕ) → (c == quote) ≡ true → OpenText bare s t → SpellsText s (t ++ c ∷ [])
text_ends s t c e h = record {
  inner = h.inner;
  parts = ap (λ (x : List ℕ). x ++ c ∷ []) (h.parts ∙ ap (λ (x : List ℕ). quote ∷ x) (append-nil h.inner)) ∙ ap (λ (y : ℕ). quote ∷ (h.inner ++ y ∷ [])) (eqb-true c quote e);
  inner_is = h.inner_is;
}

unit_holds : (a b c : ℕ) (s t : List ℕ) (d : ℕ) → OpenText (unit_3 a b c) s t → is_hex d ≡ true → TextHolds s t d (on_unit s (quad a b c d))
unfolding on_unit
unit_holds a b c s t d h e =
    let p = h.partial_is in
    let hex : AreHex (quad a b c d) = (p.0, (p.1.0, (p.1.1.1, e))) in
    either_holds s t d (is_high_surrogate (unit_of (quad a b c d))) _ _
    (λ high. goes_over (unit_3 a b c) s t d (half (quad a b c d)) h refl (hex, high))
    (λ not_high. completes (unit_3 a b c) s t d (single (quad a b c d)) h refl (hex, (not_high, low_begins a b c d hex ∙ p.1.1.0)))

slash_is : (c x : ℕ) (xs : List ℕ) → (c == x) ≡ true → xs ++ c ∷ [] ≡ xs ++ x ∷ []
slash_is c x xs e = ap (λ (y : ℕ). xs ++ y ∷ []) (eqb-true c x e)

pub text_step : (q : Within) (s t : List ℕ) (c : ℕ) → OpenText q s t → TextHolds s t c (in_text q s c)
unfolding in_text
text_step bare s t c h =
    either_holds s t c (c == quote) _ _ (λ e. text_ends s t c e h) (λ _.
    either_holds s t c (c == backslash) _ _ (λ e. goes_over bare s t c slash h (slash_is c backslash [] e) tt) (λ _.
    either_holds s t c (is_plain c) _ _ (λ e. completes bare s t c (plain c) h refl e) (λ _. tt)))
text_step slash s t c h =
    either_holds s t c (c == letter_u) _ _ (λ e. goes_over slash s t c unit_0 h (slash_is c letter_u (backslash ∷ []) e) tt) (λ _.
    either_holds s t c (is_letter c) _ _ (λ e. completes slash s t c (short c) h refl e) (λ _. tt))
text_step unit_0 s t c h = either_holds s t c (is_hex c) _ _ (λ e. goes_over unit_0 s t c (unit_1 c) h refl e) (λ _. tt)
text_step (unit_1 a) s t c h =
    either_holds s t c (is_hex c) _ _ (λ e.
    either_holds s t c (begins_low a c) _ _ (λ l. stands_alone (unit_1 a) s t c (low a c) 3 h refl (h.partial_is, (e, l)) refl) (λ l. goes_over (unit_1 a) s t c (unit_2 a c) h refl (h.partial_is, (e, l)))) (λ _. tt)
text_step (unit_2 a b) s t c h = either_holds s t c (is_hex c) _ _ (λ e. goes_over (unit_2 a b) s t c (unit_3 a b c) h refl (h.partial_is.0, (h.partial_is.1.0, (h.partial_is.1.1, e)))) (λ _. tt)
text_step (unit_3 a b c) s t d h = either_holds s t d (is_hex d) _ _ (λ e. unit_holds a b c s t d h e) (λ _. tt)
text_step (half (quad w x y z)) s t c h =
    let q = quad w x y z in
    either_holds s t c (c == backslash) _ _ (λ e. goes_over (half q) s t c (half_slash q) h (slash_is c backslash (escape q) e) h.partial_is) (λ _.
    either_holds s t c ((c == quote) || is_plain c) _ _ (λ e. stands_alone (half q) s t c (high q c) 6 h refl (h.partial_is, e) refl) (λ _. tt))
text_step (half_slash (quad w x y z)) s t c h =
    let q = quad w x y z in
    either_holds s t c (c == letter_u) _ _ (λ e. goes_over (half_slash q) s t c (low_0 q) h (slash_is c letter_u (escape q ++ backslash ∷ []) e) h.partial_is) (λ _.
    either_holds s t c (is_letter c) _ _ (λ e. stands_alone (half_slash q) s t c (high_letter q c) 7 h refl (h.partial_is, e) refl) (λ _. tt))
text_step (low_0 (quad w x y z)) s t a h =
    let q = quad w x y z in
    either_holds s t a (is_hex a) _ _ (λ e.
    either_holds s t a (digit_value a == 13) _ _ (λ f. goes_over (low_0 q) s t a (low_1 q a) h refl (h.partial_is, (e, f))) (λ f. stands_alone (low_0 q) s t a (high_first q a) 8 h refl (h.partial_is, (e, f)) refl)) (λ _. tt)
text_step (low_1 (quad w x y z) a) s t b h =
    let q = quad w x y z in
    let p = h.partial_is in
    either_holds s t b (is_hex b) _ _ (λ e.
    either_holds s t b (begins_low a b) _ _ (λ l. goes_over (low_1 q a) s t b (low_2 q a b) h refl (p.0, (p.1.0, (e, l)))) (λ l. stands_alone (low_1 q a) s t b (high_second q a b) 9 h refl (p.0, (p.1.0, (e, (p.1.1, l)))) refl)) (λ _. tt)
text_step (low_2 (quad w x y z) a b) s t c h =
    let q = quad w x y z in
    let p = h.partial_is in
    either_holds s t c (is_hex c) _ _ (λ e. goes_over (low_2 q a b) s t c (low_3 q a b c) h refl (p.0, (p.1.0, (p.1.1.0, (p.1.1.1, e))))) (λ _. tt)
text_step (low_3 (quad w x y z) a b c) s t d h =
    let q = quad w x y z in
    let p = h.partial_is in
    either_holds s t d (is_hex d) _ _ (λ e.
    let hex : AreHex (quad a b c d) = (p.1.0, (p.1.1.0, (p.1.1.1.1, e))) in
    completes (low_3 q a b c) s t d (pair q (quad a b c d)) h refl (p.0, (hex, low_begins a b c d hex ∙ p.1.1.1.0))) (λ _. tt)

-- ---- each open text goes on to a closing quote

pub no_chars : SpellsText [] (quote ∷ quote ∷ [])
no_chars = record { inner = []; parts = refl; inner_is = record { pieces = []; pieces_are = tt; spelled_is = refl; meant_is = refl } }

-- bytes with which a text is closed
abbrev pub Closes : List ℕ → Type 0
Closes t = (more : List ℕ) × (s : List ℕ) × SpellsText s (t ++ more)

-- a byte more, and what closes behind it
closes_by : (t : List ℕ) (c : ℕ) → Closes (t ++ c ∷ []) → Closes t
closes_by t c (more, s, h) = (c ∷ more, s, subst (SpellsText s) (append_assoc t (c ∷ []) more) h)

bare_closes : (s t : List ℕ) → OpenText bare s t → Closes t
bare_closes s t h = (quote ∷ [], s, text_ends s t quote refl h)

low_3_closes : (q : Quad) (a b c : ℕ) (s t : List ℕ) → OpenText (low_3 q a b c) s t → Closes t
unfolding in_text is_hex
low_3_closes q a b c s t h = closes_by t 48 (bare_closes _ (t ++ 48 ∷ []) (text_step (low_3 q a b c) s t 48 h))

low_2_closes : (q : Quad) (a b : ℕ) (s t : List ℕ) → OpenText (low_2 q a b) s t → Closes t
unfolding in_text is_hex
low_2_closes q a b s t h = closes_by t 48 (low_3_closes q a b 48 s (t ++ 48 ∷ []) (text_step (low_2 q a b) s t 48 h))

low_1_closes : (q : Quad) (a : ℕ) (s t : List ℕ) → OpenText (low_1 q a) s t → Closes t
unfolding in_text is_hex begins_low
low_1_closes q a s t h =
    let begins : ((digit_value a == 13) && true) ≡ true = rw h.partial_is.1.1 refl in
    let step : TextHolds s t 99 (cond ((digit_value a == 13) && true) (goes (low_2 q a 99) s) (lone 9)) = text_step (low_1 q a) s t 99 h in
    closes_by t 99 (low_2_closes q a 99 s (t ++ 99 ∷ []) (subst (λ (x : Bool). TextHolds s t 99 (cond x (goes (low_2 q a 99) s) (lone 9))) begins step))

low_0_closes : (q : Quad) (s t : List ℕ) → OpenText (low_0 q) s t → Closes t
unfolding in_text is_hex
low_0_closes q s t h = closes_by t 100 (low_1_closes q 100 s (t ++ 100 ∷ []) (text_step (low_0 q) s t 100 h))

half_slash_closes : (q : Quad) (s t : List ℕ) → OpenText (half_slash q) s t → Closes t
unfolding in_text
half_slash_closes q s t h = closes_by t letter_u (low_0_closes q s (t ++ letter_u ∷ []) (text_step (half_slash q) s t letter_u h))

half_closes : (q : Quad) (s t : List ℕ) → OpenText (half q) s t → Closes t
unfolding in_text
half_closes q s t h = closes_by t backslash (half_slash_closes q s (t ++ backslash ∷ []) (text_step (half q) s t backslash h))

unit_closes : (b : Bool) (q : Quad) (s r t : List ℕ) → TextHolds s t 48 (cond b (goes (half q) s) (goes bare r)) → Closes (t ++ 48 ∷ [])
unit_closes true q s r t h = half_closes q s (t ++ 48 ∷ []) h
unit_closes false q s r t h = bare_closes r (t ++ 48 ∷ []) h

unit_3_closes : (a b c : ℕ) (s t : List ℕ) → OpenText (unit_3 a b c) s t → Closes t
unfolding in_text is_hex on_unit
unit_3_closes a b c s t h = closes_by t 48 (unit_closes (is_high_surrogate (unit_of (quad a b c 48))) (quad a b c 48) s (s ++ encode_utf8 (unit_of (quad a b c 48))) t (text_step (unit_3 a b c) s t 48 h))

unit_2_closes : (a b : ℕ) (s t : List ℕ) → OpenText (unit_2 a b) s t → Closes t
unfolding in_text is_hex
unit_2_closes a b s t h = closes_by t 48 (unit_3_closes a b 48 s (t ++ 48 ∷ []) (text_step (unit_2 a b) s t 48 h))

unit_1_closes : (a : ℕ) (s t : List ℕ) → OpenText (unit_1 a) s t → Closes t
unfolding in_text is_hex begins_low
unit_1_closes a s t h =
    let begins : ((digit_value a == 13) && false) ≡ false = neither (digit_value a == 13) in
    let step : TextHolds s t 48 (cond ((digit_value a == 13) && false) (lone 3) (goes (unit_2 a 48) s)) = text_step (unit_1 a) s t 48 h in
    closes_by t 48 (unit_2_closes a 48 s (t ++ 48 ∷ []) (subst (λ (x : Bool). TextHolds s t 48 (cond x (lone 3) (goes (unit_2 a 48) s))) begins step))
  where
    neither : (x : Bool) → (x && false) ≡ false
    neither true = refl
    neither false = refl

unit_0_closes : (s t : List ℕ) → OpenText unit_0 s t → Closes t
unfolding in_text is_hex
unit_0_closes s t h = closes_by t 48 (unit_1_closes 48 s (t ++ 48 ∷ []) (text_step unit_0 s t 48 h))

slash_closes : (s t : List ℕ) → OpenText slash s t → Closes t
unfolding in_text is_letter
slash_closes s t h = closes_by t 110 (bare_closes _ (t ++ 110 ∷ []) (text_step slash s t 110 h))

pub text_closes : (q : Within) (s t : List ℕ) → OpenText q s t → Closes t
text_closes bare s t h = bare_closes s t h
text_closes slash s t h = slash_closes s t h
text_closes unit_0 s t h = unit_0_closes s t h
text_closes (unit_1 a) s t h = unit_1_closes a s t h
text_closes (unit_2 a b) s t h = unit_2_closes a b s t h
text_closes (unit_3 a b c) s t h = unit_3_closes a b c s t h
text_closes (half q) s t h = half_closes q s t h
text_closes (half_slash q) s t h = half_slash_closes q s t h
text_closes (low_0 q) s t h = low_0_closes q s t h
text_closes (low_1 q a) s t h = low_1_closes q a s t h
text_closes (low_2 q a b) s t h = low_2_closes q a b s t h
text_closes (low_3 q a b c) s t h = low_3_closes q a b c s t h
