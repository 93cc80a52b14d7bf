-- Rules that are told never hold both.
use Rattle.std.proofs.Common.{◌≡◌, ℕ, Bool, true, false, List, [], ◌∷◌, refl, sym, ap, ◌∙◌}
use Rattle.std.specs.Prelude.{◌&&◌, ◌||◌, Option, None, Some, Ok, Err, codes}
use Rattle.std.specs.Cmp.Lexicographic.{bytes_decides}
use Rattle.asl_json_data.specs.Data.{Data, dict, no_members, member, pairs}
use Rattle.asl_json_data.specs.Distinct.{Members}
use Rattle.asl_json.specs.Same.{bytes_eq}
use Rattle.asl_choice.specs.Truth.{Verdict, found, holds, negated}
use Rattle.asl_lint_choices.specs.declared.comparison.Kind.{Kind}
use Rattle.asl_lint_choices.specs.declared.comparison.Kind.TheVariants.{Text, Number, Truth}
use Rattle.asl_lint_choices.specs.Conditions.{condition, is_same}
use Rattle.asl_lint_choices.specs.Comparisons.{Compared, comparison, wanted, is_other, are_others, constants_differ, exclude_each_other, exclude_by, exclude_as_comparisons}
use Rattle.asl_lint_choices.specs.Contradictions.{is_denial, exclude}
use Rattle.asl_lint_choices.proofs.Asking.{asked_alone, alike}
use Rattle.asl_lint_choices.proofs.Passing.{Said, said, kind_at, passing}
use Rattle.asl_lint_choices.proofs.Differing.{constants_apart}

and_parts : (a b : Bool) → (a && b) ≡ true → (a ≡ true) × (b ≡ true)
and_parts true b e = (refl, e)
and_parts false b e = absurd (cc e)

-- ---- comparisons

one_kind : (j k : Kind) → Some j ≡ Some k → is_other j k ≡ true → ⊥
one_kind Text Text e d = cc d
one_kind Number Number e d = cc d
one_kind Truth Truth e d = cc d
one_kind Text Number e d = cc e
one_kind Text Truth e d = cc e
one_kind Number Text e d = cc e
one_kind Number Truth e d = cc e
one_kind Truth Text e d = cc e
one_kind Truth Number e d = cc e

kinds_apart : (s t : Compared) (x c : Data) → s.variable ≡ t.variable → are_others (wanted s.operator) (wanted t.operator) ≡ true
    → Said s x c ≡ Ok true → Said t x c ≡ Ok true → ⊥
kinds_apart s t x c p d e f = which (wanted s.operator) refl (wanted t.operator) refl d
  where
    which : (j : Option Kind) → wanted s.operator ≡ j → (k : Option Kind) → wanted t.operator ≡ k → are_others j k ≡ true → ⊥
    which (Some j) is (Some k) it d =
        let l = passing s j is x c e in
        let m = passing t k it x c f in
        let at : found s.variable x c ≡ found t.variable x c = ap (λ (q : List ℕ). found q x c) p in
        let value : l.value ≡ m.value = cc (l.there, m.there, at) in
        one_kind j k (sym l.kind_is ∙ ap kind_at value ∙ m.kind_is) d
    which (Some j) is None it d = cc d
    which None is k it d = cc d

each_apart : (s t : Compared) (x c : Data) → exclude_each_other s t ≡ true → Said s x c ≡ Ok true → Said t x c ≡ Ok true → ⊥
each_apart s t x c d e f =
    let h = and_parts (bytes_eq s.variable t.variable) (are_others (wanted s.operator) (wanted t.operator)
    || (bytes_eq s.operator t.operator && constants_differ s.operator s.operand t.operand)) d in
    which ((bytes_decides s.variable t.variable).0 h.0) (are_others (wanted s.operator) (wanted t.operator)) refl h.1
  where
    which : s.variable ≡ t.variable → (b : Bool) → are_others (wanted s.operator) (wanted t.operator) ≡ b
        → (b || (bytes_eq s.operator t.operator && constants_differ s.operator s.operand t.operand)) ≡ true → ⊥
    which p true is h = kinds_apart s t x c p is e f
    which p false is h =
        let g = and_parts (bytes_eq s.operator t.operator) (constants_differ s.operator s.operand t.operand) h in
        constants_apart s t x c p ((bytes_decides s.operator t.operator).0 g.0) g.1 e f

-- conditions, as rules
abbrev HoldsAs : Members → Data → Data → Type 0
HoldsAs ms x c = holds (dict (pairs ms)) x c ≡ Ok true

comparisons_apart : (a b : Members) (x c : Data) → exclude_as_comparisons a b ≡ true → HoldsAs a x c → HoldsAs b x c → ⊥
comparisons_apart a b x c d e f = which (comparison a) refl (comparison b) refl d
  where
    which : (s : Option Compared) → comparison a ≡ s → (t : Option Compared) → comparison b ≡ t → exclude_by s t ≡ true → ⊥
    which (Some s) is (Some t) it d = each_apart s t x c d (sym (said a s x c is) ∙ e) (sym (said b t x c it) ∙ f)
    which (Some s) is None it d = cc d
    which None is t it d = cc d

-- ---- a rule and its Not

not_true : (v : Verdict) → negated v ≡ Ok true → v ≡ Ok true → ⊥
not_true (Ok true) e f = cc e
not_true (Ok false) e f = cc f
not_true (Err g) e f = cc f

denied : (k : List ℕ) (d b x c : Data) → (bytes_eq k (codes "Not") && is_same (condition d) (condition b)) ≡ true
    → holds (dict (member k d no_members)) x c ≡ Ok true → holds b x c ≡ Ok true → ⊥
denied k d b x c h e f =
    let g = and_parts (bytes_eq k (codes "Not")) (is_same (condition d) (condition b)) h in
    not_true (holds d x c)
    (ap (λ (n : List ℕ). holds (dict (member n d no_members)) x c) (sym ((bytes_decides k (codes "Not")).0 g.0)) ∙ e)
    (alike d b x c g.1 ∙ f)

denial : (ms : Members) (b x c : Data) → is_denial ms (condition b) ≡ true → HoldsAs ms x c → holds b x c ≡ Ok true → ⊥
denial [] b x c h e f = cc h
denial (m ∷ []) b x c h e f = denied m.0 m.1 b x c h e f
denial (m ∷ n ∷ ms) b x c h e f = cc h

-- ---- both

pub never_both : (a b x c : Data) → exclude (condition a) (condition b) ≡ true → holds a x c ≡ Ok true → holds b x c ≡ Ok true → ⊥
never_both a b x c h e f =
    which (exclude_as_comparisons (condition a) (condition b)) refl (is_denial (condition a) (condition b)) refl h
  where
    which : (s : Bool) → exclude_as_comparisons (condition a) (condition b) ≡ s → (t : Bool) → is_denial (condition a) (condition b) ≡ t
        → (s || (t || is_denial (condition b) (condition a))) ≡ true → ⊥
    which true is t it h =
        comparisons_apart (condition a) (condition b) x c is (sym (asked_alone a x c) ∙ e) (sym (asked_alone b x c) ∙ f)
    which false is true it h = denial (condition a) b x c it (sym (asked_alone a x c) ∙ e) f
    which false is false it h = denial (condition b) a x c h (sym (asked_alone b x c) ∙ f) e
