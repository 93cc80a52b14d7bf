-- Lines and columns, byte by byte.
use Rattle.std.proofs.Common.{◌≡◌, ℕ, ◌+◌, ◌<◌, ◌≤◌, Bool, true, false, cond, ◌==◌, List, [], ◌∷◌, ◌++◌, length, get_or, take, refl, sym, ap, subst, ◌∙◌, append_assoc, arith, inl, inr}
use Rattle.std.specs.Prelude.{count_by}
use Rattle.std.proofs.lemmas.List.{take_more, length-append, append-nil}
use Rattle.std.proofs.lemmas.List.Sums.{sum_by-append, count_by-le-length}
use Rattle.std.proofs.lemmas.Bool.{eq-eqb, ne_eqb}
use Rattle.asl_json_spans.specs.Position.{is_feed, begins_character, IsPosition}

pub position_start : IsPosition [] 0 0
position_start = record { whole = []; since = []; parts = refl; whole_is = inl refl; one_line = refl; lines_are = refl; characters_are = refl }

count_push : (p : ℕ → Bool) (xs : List ℕ) (x : ℕ) (b : Bool) → p x ≡ b → count_by p (xs ++ x ∷ []) ≡ count_by p xs + cond b 1 0
count_push p xs x b e = sum_by-append (λ (y : ℕ). cond (p y) 1 0) xs (x ∷ []) ∙ rw e (by b)
  where
    by : (c : Bool) → count_by p xs + (0 + cond c 1 0) ≡ count_by p xs + cond c 1 0
    by true = refl
    by false = refl

pub feed_passed : (t : List ℕ) (c lines characters : ℕ) → c ≡ 10 → IsPosition t lines characters → IsPosition (t ++ c ∷ []) (lines + 1) 0
feed_passed t c lines characters e h = record {
  whole = t ++ c ∷ [];
  since = [];
  parts = sym (append-nil (t ++ c ∷ []));
  whole_is = inr (t, ap (λ (x : ℕ). t ++ x ∷ []) e);
  one_line = refl;
  lines_are = ap (λ (n : ℕ). n + 1) h.lines_are ∙ sym (count_push is_feed t c true (eq-eqb c 10 e));
  characters_are = refl;
}

other_passed : (t : List ℕ) (c lines characters after : ℕ) (b : Bool) → (c == 10) ≡ false → begins_character c ≡ b → after ≡ characters + cond b 1 0 → IsPosition t lines characters → IsPosition (t ++ c ∷ []) lines after
other_passed t c lines characters after b e f is h = record {
  whole = h.whole;
  since = h.since ++ c ∷ [];
  parts = ap (λ (x : List ℕ). x ++ c ∷ []) h.parts ∙ append_assoc h.whole h.since (c ∷ []);
  whole_is = h.whole_is;
  one_line = count_push is_feed h.since c false e ∙ ap (λ (n : ℕ). n + 0) h.one_line;
  lines_are = h.lines_are ∙ let n : count_by is_feed t ≡ count_by is_feed (t ++ c ∷ []) = omega (arith, count_push is_feed t c false e) in n;
  characters_are = is ∙ ap (λ (n : ℕ). n + cond b 1 0) h.characters_are ∙ sym (count_push begins_character h.since c b f);
}

pub character_passed : (t : List ℕ) (c lines characters : ℕ) → (c ≡ 10 → ⊥) → begins_character c ≡ true → IsPosition t lines characters → IsPosition (t ++ c ∷ []) lines (characters + 1)
character_passed t c lines characters n f h = other_passed t c lines characters (characters + 1) true (ne_eqb c 10 n) f refl h

pub inner_passed : (t : List ℕ) (c lines characters : ℕ) → (c ≡ 10 → ⊥) → begins_character c ≡ false → IsPosition t lines characters → IsPosition (t ++ c ∷ []) lines characters
inner_passed t c lines characters n f h = other_passed t c lines characters characters false (ne_eqb c 10 n) f (let e : characters ≡ characters + 0 = omega arith in e) h

pub position_steps : (text : List ℕ) (at lines characters after next more : ℕ) (c : ℕ) → at < length text → c ≡ get_or text at 0 → after ≡ at + 1 → IsPosition (take at text ++ c ∷ []) next more → IsPosition (take after text) next more
position_steps text at lines characters after next more c lt e is h = subst (λ (t : List ℕ). IsPosition t next more) (sym (ap (λ (n : ℕ). take n text) is ∙ take_more text at 0 lt ∙ ap (λ (x : ℕ). take at text ++ x ∷ []) (sym e))) h

pub few_lines : (t : List ℕ) (lines characters : ℕ) → IsPosition t lines characters → lines ≤ length t
few_lines t lines characters h = omega (arith, h.lines_are, count_by-le-length is_feed t)

pub few_characters : (t : List ℕ) (lines characters : ℕ) → IsPosition t lines characters → characters ≤ length t
few_characters t lines characters h = omega (arith, h.characters_are, count_by-le-length begins_character h.since, ap length h.parts, length-append h.whole h.since)
