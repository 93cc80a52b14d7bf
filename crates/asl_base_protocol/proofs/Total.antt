-- Every input has a reading.
use Rattle.std.proofs.Common.{◌≡◌, ℕ, ◌+◌, ◌≤◌, ◌<◌, ◌==◌, ◌&&◌, nat_lt, Bool, true, false, List, [], ◌∷◌, ◌++◌, length, take, refl, sym, ap, subst, ◌∙◌, ◌⊎◌, inl, inr, append_assoc, length-append, arith, ◌-◌}
use Rattle.std.proofs.lemmas.List.{append-nil}
use Rattle.asl_base_protocol.specs.declared.item.Item.{Item}
use Rattle.asl_base_protocol.specs.declared.item.Item.TheVariants.{Content, BadHeader, TooLong}
use Rattle.asl_base_protocol.specs.declared.said.Said.{Said}
use Rattle.asl_base_protocol.specs.declared.said.Said.TheVariants.{Nothing, Length, Fault}
use Rattle.asl_base_protocol.specs.Fields.{said, IsNoLength}
use Rattle.asl_base_protocol.specs.Grammar.{longest_header, longest_content, has_crlf, AreLines, lines_text, header_text, IsHeading, IsHeaded, IsPartOfBody, IsText, IsUnfinished, Reads}
use Rattle.asl_base_protocol.specs.private.Ends.{cr_behind}
use Rattle.asl_base_protocol.proofs.Ends.{line_on, line_front, cr_popped}
use Rattle.asl_base_protocol.proofs.Growing.{lines_more, are_more, ended, some_line, header_short}
use Rattle.asl_base_protocol.proofs.Reading.{nothing_unfinished}

-- these bytes are an item, or a part of one
abbrev Onward : List ℕ → Type 0
Onward t = ((i : Item) × IsText i t) ⊎ IsUnfinished t

by_test : (X : Type 0) (b : Bool) → (b ≡ true → X) → (b ≡ false → X) → X
by_test X true f g = f refl
by_test X false f g = g refl

below : (m n : ℕ) → nat_lt m n ≡ true → m < n
below m n e = grind (arith, e)

not_below : (m n : ℕ) → nat_lt m n ≡ false → n ≤ m
not_below m n e = grind (arith, e)

both_true : (a b : Bool) → (a && b) ≡ true → (a ≡ true) × (b ≡ true)
both_true true b e = (refl, e)
both_true false b e = absurd (cc)

is_10 : (c : ℕ) → (c == 10) ≡ true → c ≡ 10
is_10 c e = grind (arith, e)

-- ---- header parts

heading_bound : (t : List ℕ) → IsHeading t → length t ≤ longest_header → Onward t
heading_bound t h le =
    by_test (Onward t) (nat_lt (length t) longest_header) (λ e. inr (inl (h, below (length t) longest_header e)))
    (λ e. let same : length t ≡ longest_header = omega (arith, le, not_below (length t) longest_header e) in inl (BadHeader, inr (h, same)))

heading_inner : (t : List ℕ) (c : ℕ) (h : IsHeading t) → (cr_behind false h.line && (c == 10)) ≡ false → IsHeading (t ++ c ∷ [])
heading_inner t c h e = record {
  lines = h.lines;
  line = h.line ++ c ∷ [];
  parts = ap (λ (x : List ℕ). x ++ c ∷ []) h.parts ∙ append_assoc (lines_text h.lines) h.line (c ∷ []);
  lines_are = h.lines_are;
  line_is = line_on h.line c h.line_is e;
}

heading_line : (t front : List ℕ) (h : IsHeading t) → h.line ≡ front ++ 13 ∷ [] → (front ≡ [] → ⊥) → IsHeading (t ++ 10 ∷ [])
heading_line t front h e some = record {
  lines = h.lines ++ front ∷ [];
  line = [];
  parts = ended t h.lines h.line front h.parts e ∙ sym (lines_more h.lines front) ∙ sym (append-nil (lines_text (h.lines ++ front ∷ [])));
  lines_are = are_more h.lines front h.lines_are (some_line front some (line_front front 13 (subst (λ (x : List ℕ). has_crlf false x ≡ false) e h.line_is)));
  line_is = refl;
}

-- behind a header part that has ended
opened_by : (s : Said) (ls : List (List ℕ)) → s ≡ said ls → AreLines ls → length (header_text ls) ≤ longest_header → Onward (header_text ls)
opened_by Nothing ls e h short = inl (BadHeader, inl (record { lines = ls; body = []; parts = sym (append-nil (header_text ls)); lines_are = h; short = short; body_is = (subst IsNoLength e tt, refl) }))
opened_by Fault ls e h short = inl (BadHeader, inl (record { lines = ls; body = []; parts = sym (append-nil (header_text ls)); lines_are = h; short = short; body_is = (subst IsNoLength e tt, refl) }))
opened_by (Length n) ls e h short =
    by_test (Onward (header_text ls)) (nat_lt 0 n)
    (λ lt. inr (inr (record { lines = ls; body = []; parts = sym (append-nil (header_text ls)); lines_are = h; short = short; body_is = (n, sym e, below 0 n lt) })))
    (λ le.
    let none : n ≡ 0 = omega (arith, not_below 0 n le) in
    let small : 0 ≤ longest_content = omega arith in
    inl (Content [], record { lines = ls; body = []; parts = sym (append-nil (header_text ls)); lines_are = h; short = short; body_is = (sym e ∙ ap Length none, small, refl) }))

line_ended : (t front : List ℕ) (h : IsHeading t) → length t < longest_header → h.line ≡ front ++ 13 ∷ [] → Onward (t ++ 10 ∷ [])
line_ended t [] h short e =
    let is : t ++ 10 ∷ [] ≡ header_text h.lines = ended t h.lines h.line [] h.parts e in
    subst Onward (sym is) (opened_by (said h.lines) h.lines refl h.lines_are (header_short t h.lines is short))
line_ended t (c ∷ cs) h short e =
    let some : c ∷ cs ≡ [] → ⊥ = λ z. absurd (cc) in
    let le : length (t ++ 10 ∷ []) ≤ longest_header = omega (arith, short, length-append t (10 ∷ [])) in
    heading_bound (t ++ 10 ∷ []) (heading_line t (c ∷ cs) h e some) le

heading_on : (t : List ℕ) (c : ℕ) → IsHeading t → length t < longest_header → Onward (t ++ c ∷ [])
heading_on t c h short =
    by_test (Onward (t ++ c ∷ [])) (cr_behind false h.line && (c == 10))
    (λ e.
    let both = both_true (cr_behind false h.line) (c == 10) e in
    let popped = cr_popped h.line (take (length h.line - 1) h.line) refl both.0 in
    subst (λ (d : ℕ). Onward (t ++ d ∷ [])) (sym (is_10 c both.1)) (line_ended t (take (length h.line - 1) h.line) h short popped))
    (λ e.
    let le : length (t ++ c ∷ []) ≤ longest_header = omega (arith, short, length-append t (c ∷ [])) in
    heading_bound (t ++ c ∷ []) (heading_inner t c h e) le)

-- ---- content parts

body_on : (t : List ℕ) (c : ℕ) → IsHeaded IsPartOfBody t → Onward (t ++ c ∷ [])
body_on t c h =
    let body = h.body ++ c ∷ [] in
    let n = h.body_is.0 in
    let longer : length body ≡ length h.body + 1 = length-append h.body (c ∷ []) in
    let parts : t ++ c ∷ [] ≡ header_text h.lines ++ body = ap (λ (x : List ℕ). x ++ c ∷ []) h.parts ∙ append_assoc (header_text h.lines) h.body (c ∷ []) in
    by_test (Onward (t ++ c ∷ [])) (nat_lt (length body) n)
    (λ e. inr (inr (record { lines = h.lines; body = body; parts = parts; lines_are = h.lines_are; short = h.short; body_is = (n, h.body_is.1, below (length body) n e) })))
    (λ e.
    let all : n ≡ length body = omega (arith, longer, h.body_is.2, not_below (length body) n e) in
    by_test (Onward (t ++ c ∷ [])) (nat_lt longest_content n)
    (λ long. inl (TooLong n, record { lines = h.lines; body = body; parts = parts; lines_are = h.lines_are; short = h.short; body_is = (h.body_is.1, below longest_content n long, sym all) }))
    (λ few.
    let small : length body ≤ longest_content = omega (arith, all, not_below longest_content n few) in
    inl (Content body, record { lines = h.lines; body = body; parts = parts; lines_are = h.lines_are; short = h.short; body_is = (h.body_is.1 ∙ ap Length all, small, refl) })))

-- ---- inputs

onward : (t : List ℕ) (c : ℕ) → IsUnfinished t → Onward (t ++ c ∷ [])
onward t c u = elim u [ inl h ↦ heading_on t c h.0 h.1 | inr h ↦ body_on t c h ]

from_rest : (more rest : List ℕ) → IsUnfinished rest → (is : List Item) × (r : List ℕ) × Reads is r (rest ++ more)
from_rest [] rest u = ([], rest, (append-nil rest, u))
from_rest (c ∷ cs) rest u =
    elim (onward rest c u) [
      | inl w ↦
          let g = from_rest cs [] nothing_unfinished in
          (w.0 ∷ g.0, g.1, (rest ++ c ∷ [], cs, sym (append_assoc rest (c ∷ []) cs), w.1, g.2))
      | inr v ↦
          let g = from_rest cs (rest ++ c ∷ []) v in
          (g.0, g.1, subst (Reads g.0 g.1) (append_assoc rest (c ∷ []) cs) g.2)
    ]

pub a_reading : (input : List ℕ) → (is : List Item) × (r : List ℕ) × Reads is r input
a_reading input = from_rest input [] nothing_unfinished
