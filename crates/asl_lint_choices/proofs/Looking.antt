-- Conditions that are looked up by their texts.
use Rattle.std.proofs.Common.{◌≡◌, ℕ, ◌+◌, ◌<◌, Bool, true, false, cond, List, [], ◌∷◌, length, get_or, drop, refl, sym, ap, subst, ◌∙◌}
use Rattle.std.specs.Prelude.{Option, None, Some, unwrap_or, if◌then◌else◌}
use Rattle.std.specs.List.{slice_get}
use Rattle.std.specs.Str.{bytes_eq}
use Rattle.std.specs.Cmp.Lexicographic.{same_text}
use Rattle.std.proofs.lemmas.List.{drop_more}
use Rattle.asl_json_data.specs.Data.{Data, dict, pairs}
use Rattle.asl_json_data.specs.Distinct.{Members}
use Rattle.asl_json.proofs.Knowing.{bytes_eq-flip}
use Rattle.asl_json.specs.private.SameLaws.{equal_true, bytes_refl}
use Rattle.asl_lint_choices.specs.Conditions.{is_same}
use Rattle.asl_lint_choices.specs.Repeats.{first_same}
use Rattle.asl_lint_choices.specs.View.{all_asked, asked}
use Rattle.asl_lint_choices.specs.declared.condition.Condition.{Condition}
use Rattle.asl_lint_choices.specs.private.Texts.{text_in, text_of, first_with_text, or_later}
use Rattle.asl_lint_choices.proofs.Standing.{StandsAt, stands_on, stands_first}

text_inside : Data → List ℕ
text_inside (dict ms) = text_in ms
text_inside d = []

-- the same conditions have the same text
same_texts : (d c : Members) → is_same d c ≡ true → bytes_eq (text_of c) (text_of d) ≡ true
unfolding text_inside
same_texts d c e =
    subst (λ (t : List ℕ). bytes_eq (text_of c) t ≡ true)
    (sym (ap text_inside (equal_true (dict (pairs d)) (dict (pairs c)) e)))
    (bytes_refl (text_of c))

-- where the first with its text is this condition, no earlier one is
pub first_there : (c : Members) (all ds : List Members) (n i : ℕ) (d : Members) → StandsAt all n ds
    → first_with_text (text_of c) n ds ≡ Some i → slice_get all i ≡ Some d → is_same d c ≡ true → first_same c n ds ≡ Some i
first_there c all [] n i d h e at same = absurd (cc e)
first_there c all (x ∷ ds) n i d h e at same =
    by (is_same x c) (bytes_eq (text_of c) (text_of x)) refl refl e
    (λ f. first_there c all ds (n + 1) i d (stands_on all ds n x h) f at same)
  where
    by : (a b : Bool) → is_same x c ≡ a → bytes_eq (text_of c) (text_of x) ≡ b
        → (if b then Some n else first_with_text (text_of c) (n + 1) ds) ≡ Some i
        → (first_with_text (text_of c) (n + 1) ds ≡ Some i → first_same c (n + 1) ds ≡ Some i)
        → (if a then Some n else first_same c (n + 1) ds) ≡ Some i
    by true true s t e next = e
    by true false s t e next = absurd (cc (same_texts x c s, t))
    by false true s t e next =
        let here : slice_get all i ≡ Some x = subst (λ (k : ℕ). slice_get all k ≡ Some x) (cc e) (stands_first all ds n x h) in
        let one : d ≡ x = cc (at, here) in
        absurd (cc (subst (λ (y : Members). is_same y c ≡ true) one same, s))
    by false false s t e next = next e

-- the number of a condition's text is that of the first with it: one that is known, or this one
numbered : (t : List ℕ) (n : ℕ) (c : Members) (cs : List Members) (o : Option ℕ) → t ≡ text_of c
    → or_later o (first_with_text t n (c ∷ cs)) ≡ Some (unwrap_or o n)
numbered t n c cs (Some i) e = refl
numbered t n c cs None e =
    ap (λ (b : Bool). if b then Some n else first_with_text t (n + 1) cs)
    (subst (λ (s : List ℕ). bytes_eq t s ≡ true) e (bytes_refl t))

module _ (t u : List ℕ) (n : ℕ) (c : Members) (cs : List Members) (before : List ℕ → Option ℕ) (after : Option ℕ) where
  -- this text has that number, and each other text the one that it had
  pub known_step : t ≡ text_of c → after ≡ cond (bytes_eq t u) (Some (unwrap_or (before t) n)) (before u)
      → or_later after (first_with_text u (n + 1) cs) ≡ or_later (before u) (first_with_text u n (c ∷ cs))
  known_step is put = by (bytes_eq t u) refl put
    where
      by : (b : Bool) → bytes_eq t u ≡ b → after ≡ cond b (Some (unwrap_or (before t) n)) (before u)
          → or_later after (first_with_text u (n + 1) cs) ≡ or_later (before u) (first_with_text u n (c ∷ cs))
      by true same p =
          ap (λ (o : Option ℕ). or_later o (first_with_text u (n + 1) cs)) p
          ∙ sym (numbered t n c cs (before t) is)
          ∙ ap (λ (v : List ℕ). or_later (before v) (first_with_text v n (c ∷ cs))) (same_text t u (sym same))
      by false other p =
          ap (λ (o : Option ℕ). or_later o (first_with_text u (n + 1) cs)) p
          ∙ ap (λ (b : Bool). or_later (before u) (if b then Some n else first_with_text u (n + 1) cs))
          (sym (ap (bytes_eq u) (sym is) ∙ bytes_eq-flip u t ∙ other))

-- this condition and those behind it are those from here on
pub from_here : (cs : List Condition) (n : ℕ) (c : Condition) → n < length cs → c ≡ get_or cs n c
    → all_asked (drop n cs) ≡ asked c ∷ all_asked (drop (n + 1) cs)
from_here cs n c lt at = ap all_asked (drop_more cs n c lt ∙ ap (λ (x : Condition). x ∷ drop (n + 1) cs) (sym at))
