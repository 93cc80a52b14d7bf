-- The keys of a rule differ.
use Rattle.std.proofs.Common.{◌≡◌, ℕ, List, [], ◌∷◌, ◌++◌, Bool, true, false, refl, sym, subst, ap, ◌∙◌}
use Rattle.std.specs.Prelude.{Option, Some, None, Result, IfOk, codes}
use Rattle.asl_json_data.specs.Data.{Data}
use Rattle.asl_json.specs.Same.{bytes_eq}
use Rattle.asl_json_data.specs.Distinct.{Members, has_key}
use Rattle.asl_choice.specs.declared.comparison.Comparison.{Comparison}
use Rattle.asl_choice.specs.declared.operator.RuleKind.TheVariants as kind
use Rattle.asl_choice.specs.declared.rule.Condition.{Condition}
use Rattle.asl_choice.specs.declared.rule.Condition.TheVariants.{And, Or, Not, Test}
use Rattle.asl_choice.specs.Rules.{comment_named, condition_named, rule_named, comparison_operator, operator_name}
use Rattle.asl_choice.proofs.Names.{kind_stood}

-- not behind a member of another key
pub no_key_push : (k l : List ℕ) (xs : Members) (d : _) → has_key k xs ≡ false → bytes_eq k l ≡ false → has_key k (xs ++ (l, d) ∷ []) ≡ false
no_key_push k l [] d e n = rw n refl
no_key_push k l (x ∷ xs) d e n = by (bytes_eq k x.0) refl (λ f. no_key_push k l xs d f n)
  where
    by : (b : Bool) → bytes_eq k x.0 ≡ b → (has_key k xs ≡ false → has_key k (xs ++ (l, d) ∷ []) ≡ false) → has_key k (x ∷ (xs ++ (l, d) ∷ [])) ≡ false
    by true p rest = absurd (let y = rw p at e in cc)
    by false p rest = rw p (rest (rw p at e))

pub not_comment : (k : List ℕ) (comment : Option (List ℕ)) → bytes_eq k (codes "Comment") ≡ false → has_key k (comment_named comment) ≡ false
not_comment k None e = refl
not_comment k (Some t) e = rw e refl

pub test_apart : (c : Comparison) → bytes_eq (operator_name (comparison_operator c)) (codes "Variable") ≡ false
test_apart c = (kind_stood (kind.Test (comparison_operator c))).not_variable

pub test_no_comment : (c : Comparison) (comment : Option (List ℕ)) → has_key (operator_name (comparison_operator c)) (comment_named comment) ≡ false
test_no_comment c comment = not_comment (operator_name (comparison_operator c)) comment (kind_stood (kind.Test (comparison_operator c))).not_comment

pub no_next : (comment : Option (List ℕ)) (c : Condition) → has_key (codes "Next") (rule_named comment c) ≡ false
no_next None (And rs) = refl
no_next None (Or rs) = refl
no_next None (Not r) = refl
no_next None (Test t) = rw (kind_stood (kind.Test (comparison_operator t.comparison))).not_next refl
no_next (Some x) (And rs) = refl
no_next (Some x) (Or rs) = refl
no_next (Some x) (Not r) = refl
no_next (Some x) (Test t) = rw (kind_stood (kind.Test (comparison_operator t.comparison))).not_next refl

pub shown_ok : {E : Type 0} (res : Result Members E) (xs ys : Members) → xs ≡ ys → IfOk res (λ ms. ms ≡ xs) → IfOk res (λ ms. ms ≡ ys)
shown_ok res xs ys e h = subst (λ (zs : Members). IfOk res (λ ms. ms ≡ zs)) e h

pub connective_shown : {E : Type 0} (res : Result Members E) (comment : Option (List ℕ)) (name k : List ℕ) (v d : Data) (c : Condition) → name ≡ k → v ≡ d → condition_named c ≡ (k, d) ∷ [] → IfOk res (λ ms. ms ≡ comment_named comment ++ (name, v) ∷ []) → IfOk res (λ ms. ms ≡ rule_named comment c)
connective_shown res comment name k v d c n e is h =
    let same : (name, v) ∷ [] ≡ condition_named c = (λ j. (n j, e j) ∷ []) ∙ sym is in
    shown_ok res (comment_named comment ++ (name, v) ∷ []) (rule_named comment c) (ap (λ (xs : Members). comment_named comment ++ xs) same) h

pub named_apart : (name k : List ℕ) (comment : Option (List ℕ)) → name ≡ k → bytes_eq k (codes "Comment") ≡ false → has_key name (comment_named comment) ≡ false
named_apart name k comment n e = subst (λ (l : List ℕ). has_key l (comment_named comment) ≡ false) (sym n) (not_comment k comment e)
