-- What is spelled is read: each part leads the machine over itself, whatever follows.
use Rattle.std.proofs.Common.{◌≡◌, ℕ, suc, ◌+◌, Bool, true, false, nat_le, ◌&&◌, ◌||◌, ◌==◌, List, [], ◌∷◌, ◌++◌, length, Option, Some, None, Ok, refl, sym, ap, subst, ◌∙◌, append_assoc, arith}
use Rattle.std.proofs.lemmas.List.{append-nil}
use Rattle.std.proofs.lemmas.Bool.{eqb-true}
use Rattle.asl_json_data.specs.Data.{Data, null, boolean, number, text, list, dict, Chain, no_items, item, chain, Pairs, no_members, member, pairs}
use Rattle.asl_json_data.specs.Grammar.{colon, open_bracket, close_bracket, open_brace, close_brace, null_word, true_word, false_word, is_space, AreSpaces, SpellsKey, Padded, IsMember, Spells, IsText}
use Rattle.asl_json_data.specs.Parts.{comma}
use Rattle.asl_json_data.specs.private.Lists.{SpellsItems, SpellsMoreItems, SpellsMembers, SpellsMore}
use Rattle.asl_json_data.specs.Text.{quote, SpellsChars, SpellsText}
use Rattle.asl_json_scan.specs.private.Chars.{Within, bare, Inside, goes, in_text}
use Rattle.asl_json_scan.proofs.Texts.{inside_then, text_reach, goes_is, chars_reach}
use Rattle.asl_json_data.specs.Number.{is_digit, is_point, is_mark, is_sign, IsNumeral, is_over, EndsNumber}
use Rattle.asl_json_data.specs.private.NumberParts.{leading, marked, pointed, next_part, part_behind, may_end}
use Rattle.asl_json_scan.specs.private.Machine.{Mode, value, word, chars, figure, after, first, key, key_chars, behind_key, go, deepens, closes, in_judged, in_value, in_word, chars_next, in_chars, in_figure, in_after, in_first, in_key, key_chars_next, in_key_chars, in_behind_key, step, Outcome, onward, walk, judgement, run}
use Rattle.asl_json_data.specs.Distinct.{Members, has_key}
use Rattle.asl_json_scan.specs.Open.{Frame, in_list, in_dict}
use Rattle.asl_json_data.specs.Limits.{Allowed, AllowedItems, AllowedMembers}
use Rattle.asl_json_scan.specs.private.Leads.{begins}
use Rattle.asl_json_data.specs.declared.part.Part.{Part}
use Rattle.asl_json_data.specs.declared.part.Part.TheVariants.{Start, Minus, Nought, Whole, Point, Fraction, Mark, Sign, Exponent}
use Rattle.asl_json_data.proofs.Numerals.{part_none, part_before, part_longest, some_is, IsPart, numeral_accepted, numeral_some}

-- Over any outcome, with limits or without.

-- a step that goes on
pub one : {X : Type 0} (w : Outcome X) (lim : Bool) (m : Mode) (st : List Frame) (c : ℕ) (cs : List ℕ) (m' : Mode) (st' : List Frame) → step lim m st c ≡ go m' st' → walk w lim m st (c ∷ cs) ≡ walk w lim m' st' cs
unfolding walk
one w lim m st c cs m' st' e = ap (onward w (λ (n : Mode) (u : List Frame). walk w lim n u cs) (suc (length cs))) e

-- modes between which spaces may stand
abbrev pub IsSpaced : Mode → Type 0
IsSpaced value = Unit {0}
IsSpaced (word ws d) = ⊥
IsSpaced (chars q s) = ⊥
IsSpaced (figure p s) = ⊥
IsSpaced (after d) = Unit {0}
IsSpaced first = Unit {0}
IsSpaced (key ms) = Unit {0}
IsSpaced (key_chars ms o q s) = ⊥
IsSpaced (behind_key ms k) = Unit {0}

pub space_stays : (lim : Bool) (m : Mode) (st : List Frame) (c : ℕ) → IsSpaced m → is_space c ≡ true → step lim m st c ≡ go m st
unfolding in_value in_after in_first in_key in_behind_key
space_stays lim value st c h e = rw e refl
space_stays lim (after d) [] c h e = rw e refl
space_stays lim (after d) (in_list ds ∷ st) c h e = rw e refl
space_stays lim (after d) (in_dict ms k ∷ st) c h e = rw e refl
space_stays lim first st c h e = rw e refl
space_stays lim (key ms) st c h e = rw e refl
space_stays lim (behind_key ms k) st c h e = rw e refl
space_stays lim x st c h e = absurd h

pub spaces_pass : {X : Type 0} (w : Outcome X) (lim : Bool) (m : Mode) (st : List Frame) (ws rest : List ℕ) → IsSpaced m → AreSpaces ws → walk w lim m st (ws ++ rest) ≡ walk w lim m st rest
spaces_pass w lim m st [] rest h s = refl
spaces_pass w lim m st (c ∷ ws) rest h s =
    one w lim m st c (ws ++ rest) m st (space_stays lim m st c h s.0) ∙ spaces_pass w lim m st ws rest h s.1

pub null_pass : {X : Type 0} (w : Outcome X) (lim : Bool) (st : List Frame) (rest : List ℕ) → walk w lim value st (null_word ++ rest) ≡ walk w lim (after null) st rest
unfolding walk in_value in_word is_space
null_pass w lim st rest = refl

pub true_pass : {X : Type 0} (w : Outcome X) (lim : Bool) (st : List Frame) (rest : List ℕ) → walk w lim value st (true_word ++ rest) ≡ walk w lim (after (boolean true)) st rest
unfolding walk in_value in_word is_space
true_pass w lim st rest = refl

pub false_pass : {X : Type 0} (w : Outcome X) (lim : Bool) (st : List Frame) (rest : List ℕ) → walk w lim value st (false_word ++ rest) ≡ walk w lim (after (boolean false)) st rest
unfolding walk in_value in_word is_space
false_pass w lim st rest = refl

-- ---- texts

chars_then : {X : Type 0} (w : Outcome X) (lim : Bool) (st : List Frame) (s : List ℕ) (u rest : List ℕ) (len : ℕ) (n : Inside) (r : Within) (t : List ℕ) → ((q : Within) (x : List ℕ) → text_reach q x u ≡ goes r t → walk w lim (chars q x) st (u ++ rest) ≡ walk w lim (chars r t) st rest)
    → inside_then (λ q x. text_reach q x u) n ≡ goes r t → onward w (λ m st'. walk w lim m st' (u ++ rest)) len (chars_next s st n) ≡ walk w lim (chars r t) st rest
chars_then w lim st s u rest len (goes q x) r t h e = h q x e
chars_then w lim st s u rest len x r t h e = absurd cc

pub chars_go : {X : Type 0} (w : Outcome X) (lim : Bool) (st : List Frame) (q : Within) (s u rest : List ℕ) (r : Within) (t : List ℕ) → text_reach q s u ≡ goes r t → walk w lim (chars q s) st (u ++ rest) ≡ walk w lim (chars r t) st rest
unfolding walk in_chars
chars_go w lim st q s [] rest r t e = let is = goes_is q r s t e in ap (λ (x : Within). walk w lim (chars x s) st rest) is.0 ∙ ap (λ (x : List ℕ). walk w lim (chars r x) st rest) is.1
chars_go w lim st q s (c ∷ u) rest r t e = chars_then w lim st s u rest (suc (length (u ++ rest))) (in_text q s c) r t (λ q' x d. chars_go w lim st q' x u rest r t d) e

key_chars_then : {X : Type 0} (w : Outcome X) (lim : Bool) (ms : Members) (o : ℕ) (st : List Frame) (s : List ℕ) (u rest : List ℕ) (len more : ℕ) (n : Inside) (r : Within) (t : List ℕ)
    → ((q : Within) (x : List ℕ) → text_reach q x u ≡ goes r t → walk w lim (key_chars ms (suc o) q x) st (u ++ rest) ≡ walk w lim (key_chars ms more r t) st rest)
    → inside_then (λ q x. text_reach q x u) n ≡ goes r t → onward w (λ m st'. walk w lim m st' (u ++ rest)) len (key_chars_next lim ms o s st n) ≡ walk w lim (key_chars ms more r t) st rest
key_chars_then w lim ms o st s u rest len more (goes q x) r t h e = h q x e
key_chars_then w lim ms o st s u rest len more x r t h e = absurd cc

pub key_chars_go : {X : Type 0} (w : Outcome X) (lim : Bool) (ms : Members) (o : ℕ) (st : List Frame) (q : Within) (s u rest : List ℕ) (r : Within) (t : List ℕ) → text_reach q s u ≡ goes r t → walk w lim (key_chars ms o q s) st (u ++ rest) ≡ walk w lim (key_chars ms (o + length u) r t) st rest
unfolding walk in_key_chars
key_chars_go w lim ms o st q s [] rest r t e =
    let is = goes_is q r s t e in
    let none : o + 0 ≡ o = omega arith in
    ap (λ (x : Within). walk w lim (key_chars ms o x s) st rest) is.0 ∙ ap (λ (x : List ℕ). walk w lim (key_chars ms o r x) st rest) is.1 ∙ ap (λ (n : ℕ). walk w lim (key_chars ms n r t) st rest) (sym none)
key_chars_go w lim ms o st q s (c ∷ u) rest r t e =
    let count : suc o + length u ≡ o + suc (length u) = omega arith in
    key_chars_then w lim ms o st s u rest (suc (length (u ++ rest))) (o + suc (length u)) (in_text q s c) r t (λ q' x d. key_chars_go w lim ms (suc o) st q' x u rest r t d ∙ ap (λ (n : ℕ). walk w lim (key_chars ms n r t) st rest) count) e

pub chars_pass : {X : Type 0} (w : Outcome X) (lim : Bool) (s u : List ℕ) (st : List Frame) (rest : List ℕ) → SpellsChars s u → walk w lim (chars bare []) st (u ++ quote ∷ rest) ≡ walk w lim (after (text s)) st rest
unfolding in_chars in_text
chars_pass w lim s u st rest h = chars_go w lim st bare [] u (quote ∷ rest) bare s (chars_reach [] s u h) ∙ one w lim (chars bare s) st quote rest (after (text s)) st refl

-- a key that is new, as far as that matters
pub key_pass : {X : Type 0} (w : Outcome X) (lim : Bool) (ms : Members) (o : ℕ) (s u : List ℕ) (st : List Frame) (rest : List ℕ) → SpellsChars s u → (lim && has_key s ms) ≡ false
    → walk w lim (key_chars ms o bare []) st (u ++ quote ∷ rest) ≡ walk w lim (behind_key ms s) st rest
unfolding in_key_chars in_text
key_pass w lim ms o s u st rest h new = key_chars_go w lim ms o st bare [] u (quote ∷ rest) bare s (chars_reach [] s u h) ∙ one w lim (key_chars ms (o + length u) bare s) st quote rest (behind_key ms s) st (rw new refl)

-- ---- numbers

-- a byte that may stand in a number
unfoldable pub is_figure : ℕ → Bool
is_figure c = is_digit c || is_point c || is_mark c || is_sign c

-- the end, or a byte behind which no number goes on
abbrev pub StopsFigure : {X : Type 0} → Outcome X → Bool → List ℕ → Type 0
StopsFigure w lim [] = (p : Part) (s : List ℕ) (st : List Frame) → may_end p ≡ true → (lim && is_over s) ≡ false → w.at_end (figure p s) st ≡ w.at_end (after (number s)) st
StopsFigure w lim (c ∷ cs) = is_figure c ≡ false

pub not_zero : (c : ℕ) → is_digit c ≡ false → (c == 48) ≡ false
unfolding is_digit
not_zero c e = grind (arith, e)

pub digit_begins : (c : ℕ) → is_digit c ≡ true → (is_space c ≡ false) × ((c == quote) ≡ false) × ((c == open_bracket) ≡ false) × ((c == close_bracket) ≡ false) × ((c == open_brace) ≡ false) × ((c == 110) ≡ false) × ((c == 116) ≡ false) × ((c == 102) ≡ false) × ((c == 45) ≡ false)
unfolding is_digit is_space
digit_begins c e = (grind (arith, e), grind (arith, e), grind (arith, e), grind (arith, e), grind (arith, e), grind (arith, e), grind (arith, e), grind (arith, e), grind (arith, e))

-- a byte with which a part goes on
part_steps : (lim : Bool) (p q : Part) (s : List ℕ) (st : List Frame) (c : ℕ) → next_part p c ≡ Some q → step lim (figure p s) st c ≡ go (figure q (s ++ c ∷ [])) st
unfolding in_figure
part_steps lim p q s st c e = rw e refl

-- bytes with which it goes on
byte_passes : {X : Type 0} (w : Outcome X) (lim : Bool) (p q : Part) (s : List ℕ) (c : ℕ) (ds : List ℕ) (st : List Frame) (rest : List ℕ) (o : Option Part) → next_part p c ≡ o → part_behind o ds ≡ Some q
    → ((r : Part) → part_behind (Some r) ds ≡ Some q → walk w lim (figure r (s ++ c ∷ [])) st (ds ++ rest) ≡ walk w lim (figure q ((s ++ c ∷ []) ++ ds)) st rest) → walk w lim (figure p s) st (c ∷ (ds ++ rest)) ≡ walk w lim (figure q (s ++ (c ∷ ds))) st rest
byte_passes w lim p q s c ds st rest None n e later = absurd (let none = sym (part_none ds) ∙ e in cc)
byte_passes w lim p q s c ds st rest (Some r) n e later =
    one w lim (figure p s) st c (ds ++ rest) (figure r (s ++ c ∷ [])) st (part_steps lim p r s st c n) ∙ later r e ∙ ap (λ (x : List ℕ). walk w lim (figure q x) st rest) (append_assoc s (c ∷ []) ds)

pub parts_pass : {X : Type 0} (w : Outcome X) (lim : Bool) (p q : Part) (s ds : List ℕ) (st : List Frame) (rest : List ℕ) → part_behind (Some p) ds ≡ Some q → walk w lim (figure p s) st (ds ++ rest) ≡ walk w lim (figure q (s ++ ds)) st rest
parts_pass w lim p q s [] st rest e = ap (λ (x : List ℕ). walk w lim (figure p x) st rest) (sym (append-nil s)) ∙ ap (λ (r : Part). walk w lim (figure r (s ++ [])) st rest) (some_is p q e)
parts_pass w lim p q s (c ∷ ds) st rest e = byte_passes w lim p q s c ds st rest (next_part p c) refl e (λ r g. parts_pass w lim r q (s ++ c ∷ []) ds st rest g)

-- a step that two modes share
pub alike : {X : Type 0} (w : Outcome X) (lim : Bool) (m n : Mode) (st : List Frame) (c : ℕ) (cs : List ℕ) → step lim m st c ≡ step lim n st c → walk w lim m st (c ∷ cs) ≡ walk w lim n st (c ∷ cs)
unfolding walk
alike w lim m n st c cs e = ap (onward w (λ (o : Mode) (u : List Frame). walk w lim o u cs) (suc (length cs))) e

-- where a number begins, a value begins with it
pub value_begins : {X : Type 0} (w : Outcome X) (lim : Bool) (st : List Frame) (c : ℕ) (cs : List ℕ) → begins (c ∷ cs) ≡ true → walk w lim value st (c ∷ cs) ≡ walk w lim (figure Start []) st (c ∷ cs)
unfolding in_value in_figure is_space
value_begins w lim st c cs h = alike w lim value (figure Start []) st c cs (told (c == 45) (is_digit c) refl refl h)
  where
    told : (x d : Bool) → (c == 45) ≡ x → is_digit c ≡ d → (x || d) ≡ true → step lim value st c ≡ step lim (figure Start []) st c
    told true d e f h = subst (λ (x : ℕ). step lim value st x ≡ step lim (figure Start []) st x) (sym (eqb-true c 45 e)) refl
    told false true e f h = let b = digit_begins c f in rw (b.0, b.1, b.2, b.3, b.4, b.5, b.6, b.7) refl
    told false false e f h = absurd cc

part_begins : (o : Option Part) (q : Part) (c : ℕ) (ds rest : List ℕ) → next_part Start c ≡ o → part_behind o ds ≡ Some q → begins (c ∷ (ds ++ rest)) ≡ true
unfolding next_part leading is_digit
part_begins None q c ds rest n e = absurd (let none = sym (part_none ds) ∙ e in cc)
part_begins (Some r) q c ds rest n e = grind (arith, n)

-- so much of a number
pub part_pass : {X : Type 0} (w : Outcome X) (lim : Bool) (q : Part) (s : List ℕ) (st : List Frame) (rest : List ℕ) → (s ≡ [] → ⊥) → IsPart q s → walk w lim value st (s ++ rest) ≡ walk w lim (figure q s) st rest
part_pass w lim q [] st rest some h = absurd (some refl)
part_pass w lim q (c ∷ ds) st rest some h = value_begins w lim st c (ds ++ rest) (part_begins (next_part Start c) q c ds rest refl h) ∙ parts_pass w lim Start q [] (c ∷ ds) st rest h

figure_stops : (p : Part) (c : ℕ) → is_figure c ≡ false → next_part p c ≡ None
unfolding is_figure next_part leading pointed marked is_digit is_point is_mark is_sign
figure_stops Start c h = grind (arith, h)
figure_stops Minus c h = grind (arith, h)
figure_stops Nought c h = grind (arith, h)
figure_stops Whole c h = grind (arith, h)
figure_stops Point c h = grind (arith, h)
figure_stops Fraction c h = grind (arith, h)
figure_stops Mark c h = grind (arith, h)
figure_stops Sign c h = grind (arith, h)
figure_stops Exponent c h = grind (arith, h)

-- a byte that stands in no number ends one
pub figure_ends_number : (s : List ℕ) (c : ℕ) (cs : List ℕ) → is_figure c ≡ false → EndsNumber s (c ∷ cs)
figure_ends_number s c cs h = λ more n.
    let a = numeral_accepted (s ++ c ∷ more) n in
    let x = part_before a.to s (c ∷ more) a.leads in
    part_longest x.0 s c cs x.1 (figure_stops x.0 c h) more n

pub numeral_begins : (s : List ℕ) → IsNumeral s → begins s ≡ true
numeral_begins [] h = absurd (numeral_some [] h refl)
numeral_begins (c ∷ s) h = let a = numeral_accepted (c ∷ s) h in part_begins (next_part Start c) a.to c s [] refl a.leads

-- a number in the limits ends where no number goes on
pub figure_ends : {X : Type 0} (w : Outcome X) (lim : Bool) (p : Part) (s : List ℕ) (st : List Frame) (rest : List ℕ) → may_end p ≡ true → (lim && is_over s) ≡ false → StopsFigure w lim rest → walk w lim (figure p s) st rest ≡ walk w lim (after (number s)) st rest
unfolding walk in_figure in_judged
figure_ends w lim p s st [] may fits stops = stops p s st may fits
figure_ends w lim p s st (c ∷ cs) may fits stops = alike w lim (figure p s) (after (number s)) st c cs (rw (figure_stops p c stops, may, fits) refl)

pub number_pass : {X : Type 0} (w : Outcome X) (lim : Bool) (s t : List ℕ) (st : List Frame) (rest : List ℕ) → StopsFigure w lim rest → (t ≡ s) × IsNumeral s → (lim && is_over s) ≡ false → walk w lim value st (t ++ rest) ≡ walk w lim (after (number s)) st rest
number_pass w lim s t st rest stops h fits =
    let a = numeral_accepted s h.1 in
    ap (λ (x : List ℕ). walk w lim value st (x ++ rest)) h.0 ∙ part_pass w lim a.to s st rest (numeral_some s h.1) a.leads ∙ figure_ends w lim a.to s st rest a.ends fits stops

space_figure : (c : ℕ) → is_space c ≡ true → is_figure c ≡ false
unfolding is_figure is_space is_digit is_point is_mark is_sign
space_figure c e = grind (arith, e)

-- spaces don't go on with a number
pub spaces_stop : {X : Type 0} (w : Outcome X) (lim : Bool) (ws rest : List ℕ) → AreSpaces ws → StopsFigure w lim rest → StopsFigure w lim (ws ++ rest)
spaces_stop w lim [] rest h stops = stops
spaces_stop w lim (c ∷ ws) rest h stops = space_figure c h.0

pub comma_stops : is_figure comma ≡ false
unfolding is_figure is_digit is_point is_mark is_sign
comma_stops = refl

pub bracket_stops : is_figure close_bracket ≡ false
unfolding is_figure is_digit is_point is_mark is_sign
bracket_stops = refl

pub brace_stops : is_figure close_brace ≡ false
unfolding is_figure is_digit is_point is_mark is_sign
brace_stops = refl

-- items in front of others
abbrev pub onto_items : List Data → Chain → Chain
onto_items [] ds = ds
onto_items (d ∷ l) ds = item d (onto_items l ds)

pub onto_items-push : (l : List Data) (d : Data) (ds : Chain) → onto_items (l ++ d ∷ []) ds ≡ onto_items l (item d ds)
onto_items-push [] d ds = refl
onto_items-push (e ∷ l) d ds = ap (item e) (onto_items-push l d ds)

pub onto_items-none : (l : List Data) → onto_items l no_items ≡ chain l
onto_items-none [] = refl
onto_items-none (e ∷ l) = ap (item e) (onto_items-none l)

-- members in front of others
abbrev pub onto : Members → Pairs → Pairs
onto [] ms = ms
onto (m ∷ l) ms = member m.0 m.1 (onto l ms)

pub onto-push : (l : Members) (k : List ℕ) (d : Data) (ms : Pairs) → onto (l ++ (k, d) ∷ []) ms ≡ onto l (member k d ms)
onto-push [] k d ms = refl
onto-push (m ∷ l) k d ms = ap (member m.0 m.1) (onto-push l k d ms)

pub onto-none : (l : Members) → onto l no_members ≡ pairs l
onto-none [] = refl
onto-none (m ∷ l) = ap (member m.0 m.1) (onto-none l)

-- where a key may stand
pub record AsksKey (lim : Bool) (m : Mode) (ms : Members) : Type 0 where
  pub spaced : IsSpaced m
  pub opens : (st : List Frame) → step lim m st quote ≡ go (key_chars ms 1 bare []) st

pub first_asks : (lim : Bool) → AsksKey lim first []
unfolding in_first is_space
first_asks lim = record { spaced = tt; opens = λ st. refl }

pub key_asks : (lim : Bool) (ms : Members) → AsksKey lim (key ms) ms
unfolding in_key is_space
key_asks lim ms = record { spaced = tt; opens = λ st. refl }

-- the key of a member, up to its colon
pub name_pass : {X : Type 0} (w : Outcome X) (lim : Bool) (m : Mode) (ms : Members) (k t : List ℕ) (st : List Frame) (rest : List ℕ) → AsksKey lim m ms → SpellsKey k t → (lim && has_key k ms) ≡ false
    → walk w lim m st (t ++ colon ∷ rest) ≡ walk w lim value (in_dict ms k ∷ st) rest
unfolding in_behind_key is_space
name_pass w lim m ms k t st rest asks spelled new =
    let b = spelled.before in
    let e = spelled.behind in
    let more = e ++ colon ∷ rest in
    let u = spelled.quoted_is.inner in
    let regrouped : t ++ colon ∷ rest ≡ b ++ (quote ∷ (u ++ quote ∷ more)) = rw (spelled.parts, spelled.quoted_is.parts) (simp append_assoc) in
    ap (walk w lim m st) regrouped
    ∙ spaces_pass w lim m st b (quote ∷ (u ++ quote ∷ more)) asks.spaced spelled.before_is
    ∙ one w lim m st quote (u ++ quote ∷ more) (key_chars ms 1 bare []) st (asks.opens st)
    ∙ key_pass w lim ms 1 k u st more spelled.quoted_is.inner_is new
    ∙ spaces_pass w lim (behind_key ms k) st e (colon ∷ rest) tt spelled.behind_is
    ∙ one w lim (behind_key ms k) st colon rest value (in_dict ms k ∷ st) refl

pub quote_pass : {X : Type 0} (w : Outcome X) (lim : Bool) (st : List Frame) (rest : List ℕ) → walk w lim value st (quote ∷ rest) ≡ walk w lim (chars bare []) st rest
unfolding in_value is_space
quote_pass w lim st rest = one w lim value st quote rest (chars bare []) st refl

pub text_pass : {X : Type 0} (w : Outcome X) (lim : Bool) (s t : List ℕ) (st : List Frame) (rest : List ℕ) → SpellsText s t → walk w lim value st (t ++ rest) ≡ walk w lim (after (text s)) st rest
text_pass w lim s t st rest h =
    let u = h.inner in
    let regrouped : t ++ rest ≡ quote ∷ (u ++ quote ∷ rest) = rw h.parts (simp append_assoc) in
    ap (walk w lim value st) regrouped ∙ quote_pass w lim st (u ++ quote ∷ rest) ∙ chars_pass w lim s u st rest h.inner_is

pub bracket_pass : {X : Type 0} (w : Outcome X) (lim : Bool) (st : List Frame) (rest : List ℕ) → (lim && nat_le 64 (length st)) ≡ false → walk w lim value st (open_bracket ∷ rest) ≡ walk w lim value (in_list [] ∷ st) rest
unfolding in_value deepens is_space
bracket_pass w lim st rest h = one w lim value st open_bracket rest value (in_list [] ∷ st) (rw h refl)

pub no_items_pass : {X : Type 0} (w : Outcome X) (lim : Bool) (st : List Frame) (rest : List ℕ) → walk w lim value (in_list [] ∷ st) (close_bracket ∷ rest) ≡ walk w lim (after (list no_items)) st rest
unfolding in_value closes is_space
no_items_pass w lim st rest = one w lim value (in_list [] ∷ st) close_bracket rest (after (list no_items)) st refl

pub last_item_pass : {X : Type 0} (w : Outcome X) (lim : Bool) (seen : List Data) (d : Data) (st : List Frame) (rest : List ℕ) → walk w lim (after d) (in_list seen ∷ st) (close_bracket ∷ rest) ≡ walk w lim (after (list (chain (seen ++ d ∷ [])))) st rest
unfolding in_after is_space
last_item_pass w lim seen d st rest = one w lim (after d) (in_list seen ∷ st) close_bracket rest (after (list (chain (seen ++ d ∷ [])))) st refl

pub next_item_pass : {X : Type 0} (w : Outcome X) (lim : Bool) (seen : List Data) (d : Data) (st : List Frame) (rest : List ℕ) → walk w lim (after d) (in_list seen ∷ st) (comma ∷ rest) ≡ walk w lim value (in_list (seen ++ d ∷ []) ∷ st) rest
unfolding in_after is_space
next_item_pass w lim seen d st rest = one w lim (after d) (in_list seen ∷ st) comma rest value (in_list (seen ++ d ∷ []) ∷ st) refl

pub brace_pass : {X : Type 0} (w : Outcome X) (lim : Bool) (st : List Frame) (rest : List ℕ) → (lim && nat_le 64 (length st)) ≡ false → walk w lim value st (open_brace ∷ rest) ≡ walk w lim first st rest
unfolding in_value deepens is_space
brace_pass w lim st rest h = one w lim value st open_brace rest first st (rw h refl)

pub empty_pass : {X : Type 0} (w : Outcome X) (lim : Bool) (st : List Frame) (rest : List ℕ) → walk w lim first st (close_brace ∷ rest) ≡ walk w lim (after (dict no_members)) st rest
unfolding in_first is_space
empty_pass w lim st rest = one w lim first st close_brace rest (after (dict no_members)) st refl

pub close_pass : {X : Type 0} (w : Outcome X) (lim : Bool) (seen : Members) (k : List ℕ) (d : Data) (st : List Frame) (rest : List ℕ) → walk w lim (after d) (in_dict seen k ∷ st) (close_brace ∷ rest) ≡ walk w lim (after (dict (pairs (seen ++ (k, d) ∷ [])))) st rest
unfolding in_after is_space
close_pass w lim seen k d st rest = one w lim (after d) (in_dict seen k ∷ st) close_brace rest (after (dict (pairs (seen ++ (k, d) ∷ [])))) st refl

pub comma_pass : {X : Type 0} (w : Outcome X) (lim : Bool) (seen : Members) (k : List ℕ) (d : Data) (st : List Frame) (rest : List ℕ) → walk w lim (after d) (in_dict seen k ∷ st) (comma ∷ rest) ≡ walk w lim (key (seen ++ (k, d) ∷ [])) st rest
unfolding in_after is_space
comma_pass w lim seen k d st rest = one w lim (after d) (in_dict seen k ∷ st) comma rest (key (seen ++ (k, d) ∷ [])) st refl

-- what reads a value within what stands open
abbrev pub ReadsHere : {X : Type 0} → Outcome X → Bool → Data → List Frame → Type 0
ReadsHere w lim d st = (u rest : List ℕ) → StopsFigure w lim rest → Spells d u → walk w lim value st (u ++ rest) ≡ walk w lim (after d) st rest

-- a value and the spaces round it
pub padded_pass : {X : Type 0} (w : Outcome X) (lim : Bool) (d : Data) (t : List ℕ) (st : List Frame) (rest : List ℕ) → StopsFigure w lim rest → Padded (Spells d) t → ReadsHere w lim d st → walk w lim value st (t ++ rest) ≡ walk w lim (after d) st rest
padded_pass w lim d t st rest stops h reads =
    let regrouped : t ++ rest ≡ h.before ++ (h.inner ++ (h.behind ++ rest)) = rw h.parts (simp append_assoc) in
    ap (walk w lim value st) regrouped
    ∙ spaces_pass w lim value st h.before (h.inner ++ (h.behind ++ rest)) tt h.before_is
    ∙ reads h.inner (h.behind ++ rest) (spaces_stop w lim h.behind rest h.behind_is stops) h.inner_is
    ∙ spaces_pass w lim (after d) st h.behind rest tt h.behind_is

pub member_pass : {X : Type 0} (w : Outcome X) (lim : Bool) (m : Mode) (seen : Members) (k : List ℕ) (d : Data) (t : List ℕ) (st : List Frame) (rest : List ℕ) → StopsFigure w lim rest → AsksKey lim m seen → IsMember k (Spells d) t
    → (lim && has_key k seen) ≡ false → ReadsHere w lim d (in_dict seen k ∷ st) → walk w lim m st (t ++ rest) ≡ walk w lim (after d) (in_dict seen k ∷ st) rest
member_pass w lim m seen k d t st rest stops asks h new reads =
    let regrouped : t ++ rest ≡ h.key ++ colon ∷ (h.value ++ rest) = rw h.parts (simp append_assoc) in
    ap (walk w lim m st) regrouped ∙ name_pass w lim m seen k h.key st (h.value ++ rest) asks h.key_is new ∙ padded_pass w lim d h.value (in_dict seen k ∷ st) rest stops h.value_is reads

-- what stands behind an item or a member doesn't go on with a number
more_items_stop : {X : Type 0} (w : Outcome X) (lim : Bool) (ds : Chain) (t rest : List ℕ) → SpellsMoreItems ds t → StopsFigure w lim (t ++ rest)
more_items_stop w lim no_items t rest h = subst (λ (x : List ℕ). StopsFigure w lim (x ++ rest)) (sym h) bracket_stops
more_items_stop w lim (item d ds) t rest h = subst (λ (x : List ℕ). StopsFigure w lim (x ++ rest)) (sym h.parts) comma_stops

more_stops : {X : Type 0} (w : Outcome X) (lim : Bool) (ms : Pairs) (t rest : List ℕ) → SpellsMore ms t → StopsFigure w lim (t ++ rest)
more_stops w lim no_members t rest h = subst (λ (x : List ℕ). StopsFigure w lim (x ++ rest)) (sym h) brace_stops
more_stops w lim (member k d ms) t rest h = subst (λ (x : List ℕ). StopsFigure w lim (x ++ rest)) (sym h.parts) comma_stops

mutual
  pub value_pass : {X : Type 0} (w : Outcome X) (lim : Bool) (v : Data) (t : List ℕ) (st : List Frame) (rest : List ℕ) → StopsFigure w lim rest → Spells v t → Allowed lim (length st) v → walk w lim value st (t ++ rest) ≡ walk w lim (after v) st rest
  value_pass w lim null t st rest stops h ok = rw h (null_pass w lim st rest)
  value_pass w lim (boolean true) t st rest stops h ok = rw h (true_pass w lim st rest)
  value_pass w lim (boolean false) t st rest stops h ok = rw h (false_pass w lim st rest)
  value_pass w lim (number s) t st rest stops h ok = number_pass w lim s t st rest stops h ok
  value_pass w lim (text s) t st rest stops h ok = text_pass w lim s t st rest h
  value_pass w lim (list ds) t st rest stops h ok =
      ap (λ (x : List ℕ). walk w lim value st (x ++ rest)) h.parts
      ∙ bracket_pass w lim st (h.tail ++ rest) ok.0
      ∙ items_pass w lim ds h.tail st rest h.tail_is ok.1
  value_pass w lim (dict ms) t st rest stops h ok =
      ap (λ (x : List ℕ). walk w lim value st (x ++ rest)) h.parts
      ∙ brace_pass w lim st (h.tail ++ rest) ok.0
      ∙ members_pass w lim ms h.tail st rest h.tail_is ok.1

  pub items_pass : {X : Type 0} (w : Outcome X) (lim : Bool) (ds : Chain) (t : List ℕ) (st : List Frame) (rest : List ℕ) → SpellsItems ds t → AllowedItems lim (suc (length st)) ds
      → walk w lim value (in_list [] ∷ st) (t ++ rest) ≡ walk w lim (after (list ds)) st rest
  items_pass w lim no_items t st rest h ok =
      let regrouped : t ++ rest ≡ h.front ++ (close_bracket ∷ rest) = rw (h.parts, h.back_is) (simp append_assoc) in
      ap (walk w lim value (in_list [] ∷ st)) regrouped ∙ spaces_pass w lim value (in_list [] ∷ st) h.front (close_bracket ∷ rest) tt h.front_is ∙ no_items_pass w lim st rest
  items_pass w lim (item d ds) t st rest h ok =
      let regrouped : t ++ rest ≡ h.front ++ (h.back ++ rest) = rw h.parts (append_assoc h.front h.back rest) in
      ap (walk w lim value (in_list [] ∷ st)) regrouped
      ∙ padded_pass w lim d h.front (in_list [] ∷ st) (h.back ++ rest) (more_items_stop w lim ds h.back rest h.back_is) h.front_is (λ u r stops g. value_pass w lim d u (in_list [] ∷ st) r stops g ok.0)
      ∙ more_items_pass w lim ds [] d h.back st rest h.back_is ok.1

  pub more_items_pass : {X : Type 0} (w : Outcome X) (lim : Bool) (ds : Chain) (seen : List Data) (d : Data) (t : List ℕ) (st : List Frame) (rest : List ℕ) → SpellsMoreItems ds t → AllowedItems lim (suc (length st)) ds
      → walk w lim (after d) (in_list seen ∷ st) (t ++ rest) ≡ walk w lim (after (list (onto_items seen (item d ds)))) st rest
  more_items_pass w lim no_items seen d t st rest h ok =
      ap (λ (x : List ℕ). walk w lim (after d) (in_list seen ∷ st) (x ++ rest)) h
      ∙ last_item_pass w lim seen d st rest
      ∙ ap (λ (x : Chain). walk w lim (after (list x)) st rest) (sym (onto_items-none (seen ++ d ∷ [])) ∙ onto_items-push seen d no_items)
  more_items_pass w lim (item e ds) seen d t st rest h ok =
      let j = h.tail_is in
      let regrouped : t ++ rest ≡ comma ∷ (j.front ++ (j.back ++ rest)) = rw (h.parts, j.parts) (simp append_assoc) in
      ap (walk w lim (after d) (in_list seen ∷ st)) regrouped
      ∙ next_item_pass w lim seen d st (j.front ++ (j.back ++ rest))
      ∙ padded_pass w lim e j.front (in_list (seen ++ d ∷ []) ∷ st) (j.back ++ rest) (more_items_stop w lim ds j.back rest j.back_is) j.front_is (λ u r stops g. value_pass w lim e u (in_list (seen ++ d ∷ []) ∷ st) r stops g ok.0)
      ∙ more_items_pass w lim ds (seen ++ d ∷ []) e j.back st rest j.back_is ok.1
      ∙ ap (λ (x : Chain). walk w lim (after (list x)) st rest) (onto_items-push seen d (item e ds))

  pub members_pass : {X : Type 0} (w : Outcome X) (lim : Bool) (ms : Pairs) (t : List ℕ) (st : List Frame) (rest : List ℕ) → SpellsMembers ms t → AllowedMembers lim (suc (length st)) [] ms
      → walk w lim first st (t ++ rest) ≡ walk w lim (after (dict ms)) st rest
  members_pass w lim no_members t st rest h ok =
      let regrouped : t ++ rest ≡ h.front ++ (close_brace ∷ rest) = rw (h.parts, h.back_is) (simp append_assoc) in
      ap (walk w lim first st) regrouped ∙ spaces_pass w lim first st h.front (close_brace ∷ rest) tt h.front_is ∙ empty_pass w lim st rest
  members_pass w lim (member k d ms) t st rest h ok =
      let regrouped : t ++ rest ≡ h.front ++ (h.back ++ rest) = rw h.parts (append_assoc h.front h.back rest) in
      ap (walk w lim first st) regrouped
      ∙ member_pass w lim first [] k d h.front st (h.back ++ rest) (more_stops w lim ms h.back rest h.back_is) (first_asks lim) h.front_is ok.0 (λ u r stops g. value_pass w lim d u (in_dict [] k ∷ st) r stops g ok.1.0)
      ∙ more_pass w lim ms [] k d h.back st rest h.back_is ok.1.1

  pub more_pass : {X : Type 0} (w : Outcome X) (lim : Bool) (ms : Pairs) (seen : Members) (k : List ℕ) (d : Data) (t : List ℕ) (st : List Frame) (rest : List ℕ) → SpellsMore ms t
      → AllowedMembers lim (suc (length st)) (seen ++ (k, d) ∷ []) ms → walk w lim (after d) (in_dict seen k ∷ st) (t ++ rest) ≡ walk w lim (after (dict (onto seen (member k d ms)))) st rest
  more_pass w lim no_members seen k d t st rest h ok =
      ap (λ (x : List ℕ). walk w lim (after d) (in_dict seen k ∷ st) (x ++ rest)) h
      ∙ close_pass w lim seen k d st rest
      ∙ ap (λ (x : Pairs). walk w lim (after (dict x)) st rest) (sym (onto-none (seen ++ (k, d) ∷ [])) ∙ onto-push seen k d no_members)
  more_pass w lim (member l e ms) seen k d t st rest h ok =
      let j = h.tail_is in
      let regrouped : t ++ rest ≡ comma ∷ (j.front ++ (j.back ++ rest)) = rw (h.parts, j.parts) (simp append_assoc) in
      ap (walk w lim (after d) (in_dict seen k ∷ st)) regrouped
      ∙ comma_pass w lim seen k d st (j.front ++ (j.back ++ rest))
      ∙ member_pass w lim (key (seen ++ (k, d) ∷ [])) (seen ++ (k, d) ∷ []) l e j.front st (j.back ++ rest) (more_stops w lim ms j.back rest j.back_is) (key_asks lim (seen ++ (k, d) ∷ [])) j.front_is ok.0 (λ u r stops g. value_pass w lim e u (in_dict (seen ++ (k, d) ∷ []) l ∷ st) r stops g ok.1.0)
      ∙ more_pass w lim ms (seen ++ (k, d) ∷ []) l e j.back st rest j.back_is ok.1.1
      ∙ ap (λ (x : Pairs). walk w lim (after (dict x)) st rest) (onto-push seen k d (member l e ms))

-- at the end a number in the limits is a value
figure_judged : (lim : Bool) → StopsFigure (judgement lim) lim []
figure_judged lim p s st may fits = rw (may, fits) refl

-- a text is read as its value
pub text_read : (lim : Bool) (v : Data) (b : List ℕ) → IsText b v → Allowed lim 0 v → run lim value [] b ≡ Ok v
unfolding walk
text_read lim v b h ok =
    ap (run lim value []) (sym (append-nil b)) ∙ padded_pass (judgement lim) lim v b [] [] (figure_judged lim) h (λ u r stops g. value_pass (judgement lim) lim v u [] r stops g ok)
