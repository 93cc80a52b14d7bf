-- What the members of a rule are.
use Rattle.std.proofs.Common.{◌≡◌, ℕ, List, ◌∷◌, Bool, true, false, refl, sym, subst, ap, ◌∙◌, inl, inr}
use Rattle.std.specs.Prelude.{Option, Some, None, is_some, codes}
use Rattle.asl_json_data.specs.Data.{Data, Pairs}
use Rattle.asl_json.specs.Same.{bytes_eq}
use Rattle.asl_json.specs.Meaning.{value_at}
use Rattle.asl_def_schema.specs.declared.sort.Sort.{Sort}
use Rattle.asl_def_schema.specs.declared.sort.Sort.TheVariants as sort
use Rattle.asl_def_schema.specs.Members.{Group, Shape, shape_of, sort_at, is_among, operators, connectives, rule_groups, at_most_one, inner_rule_rows, rule_rows, test_rows}
use Rattle.asl_def_schema.specs.Claims.{counts, any_in}
use Rattle.asl_def_schema.specs.Clean.{IsCleanInside, Fits, IsThere, IsThereAmong, is_beside}
use Rattle.asl_def_schema.proofs.Inside.{fits_at, there_beside, clean}
use Rattle.asl_def_schema.proofs.Deciding.{IsGroup, one_counts, some_counts}
use Rattle.asl_choice.specs.declared.operator.Operator.{Operator}
use Rattle.asl_choice.specs.declared.operator.RuleKind.{RuleKind}
use Rattle.asl_choice.specs.declared.operator.RuleKind.TheVariants as kind
use Rattle.asl_choice.specs.Rules.{IsRule, outer, inner, HasVariable, deciding, operator_name, kind_name, kind_names, kind_sort}
use Rattle.asl_choice.proofs.Names.{kind_stood, kind_sorted, among_operators, apart_from}
use Rattle.asl_choice.proofs.Picked.{sort_in-append}

pub record Ruled (ms : Pairs) : Type 0 where
  pub comment : Fits sort.Text (value_at (codes "Comment") ms)
  pub fits : (k : RuleKind) → Fits (kind_sort k) (value_at (kind_name k) ms)
  pub variable : (k : RuleKind) (d : Data) → value_at (kind_name k) ms ≡ Some d → HasVariable k (value_at (codes "Variable") ms)
  pub alone : (k : RuleKind) (d : Data) (l : List ℕ) → value_at (kind_name k) ms ≡ Some d → is_among l kind_names ≡ true → bytes_eq (kind_name k) l ≡ false → value_at l ms ≡ None
  pub decided : any_in deciding ms ≡ true

record IsRuleShape (sh : Shape) : Type 0 where
  groups : sh.groups ≡ rule_groups
  comment : sort_at sh (codes "Comment") ≡ sort.Text
  variable : sort_at sh (codes "Variable") ≡ sort.Path
  sorts : (k : RuleKind) → sort_at sh (kind_name k) ≡ kind_sort k
  beside : (o : Operator) → is_beside (codes "Variable") (operator_name o) sh.rows ≡ true

-- Variable beside And, Or and Not
abbrev unvaried : Group
unvaried = at_most_one (codes "Variable" ∷ connectives)

counted : (l : List ℕ) (d : Data) → is_among l kind_names ≡ true → counts deciding l d ≡ true
unfolding operators test_rows
counted l d e =
    let other : bytes_eq l (codes "End") ≡ false = apart_from (codes "End") l kind_names refl e in
    rw (e, other) refl

decides : (sh : Shape) → IsRuleShape sh → IsGroup deciding sh.groups
decides sh is = subst (λ (gs : List Group). IsGroup deciding gs) (sym is.groups) (inl refl)

is_unvaried : (sh : Shape) → IsRuleShape sh → IsGroup unvaried sh.groups
is_unvaried sh is = subst (λ (gs : List Group). IsGroup unvaried gs) (sym is.groups) (inr (inl refl))

there : (names : List ℕ → Bool) (s : Sort) (o : Option Data) → IsThereAmong names s o → IsThere s o
there names s None h = h
there names s (Some d) h = clean h

none_of : (o : Option Data) → ((d : Data) → o ≡ Some d → ⊥) → o ≡ None
none_of None h = refl
none_of (Some d) h = absurd (h d refl)

only : (names : List ℕ → Bool) (sh : Shape) (ms : Pairs) → IsRuleShape sh → IsCleanInside names sh ms → (k : RuleKind) (d : Data) (l : List ℕ) → value_at (kind_name k) ms ≡ Some d → is_among l kind_names ≡ true → bytes_eq (kind_name k) l ≡ false → value_at l ms ≡ None
only names sh ms is c k d l at e n = none_of (value_at l ms) (λ v f. one_counts names sh deciding ms (kind_name k) l d v c (decides sh is) n at f (counted (kind_name k) d (kind_stood k).among) (counted l v e))

varied : (names : List ℕ → Bool) (sh : Shape) (ms : Pairs) → IsRuleShape sh → IsCleanInside names sh ms → (k : RuleKind) (d : Data) → value_at (kind_name k) ms ≡ Some d → HasVariable k (value_at (codes "Variable") ms)
varied names sh ms is c (kind.Test o) d at =
    let found : is_some (value_at (operator_name o) ms) ≡ true = ap is_some at in
    subst (λ (s : Sort). IsThere s (value_at (codes "Variable") ms)) is.variable (there names (sort_at sh (codes "Variable")) (value_at (codes "Variable") ms) (there_beside names sh ms (codes "Variable") (operator_name o) (is.beside o) found c))
varied names sh ms is c kind.And d at = none_of (value_at (codes "Variable") ms) (λ v f. one_counts names sh unvaried ms (codes "Variable") (codes "And") v d c (is_unvaried sh is) refl f at refl refl)
varied names sh ms is c kind.Or d at = none_of (value_at (codes "Variable") ms) (λ v f. one_counts names sh unvaried ms (codes "Variable") (codes "Or") v d c (is_unvaried sh is) refl f at refl refl)
varied names sh ms is c kind.Not d at = none_of (value_at (codes "Variable") ms) (λ v f. one_counts names sh unvaried ms (codes "Variable") (codes "Not") v d c (is_unvaried sh is) refl f at refl refl)

within : (names : List ℕ → Bool) (sh : Shape) (ms : Pairs) → IsRuleShape sh → IsCleanInside names sh ms → Ruled ms
within names sh ms is c = record {
  comment = subst (λ (s : Sort). Fits s (value_at (codes "Comment") ms)) is.comment (fits_at names sh ms (codes "Comment") c);
  fits = λ k. subst (λ (s : Sort). Fits s (value_at (kind_name k) ms)) (is.sorts k) (fits_at names sh ms (kind_name k) c);
  variable = varied names sh ms is c;
  alone = only names sh ms is c;
  decided = some_counts names sh deciding ms c (decides sh is) refl;
}

inner_shape : IsRuleShape (shape_of sort.InnerRule None)
unfolding inner_rule_rows
inner_shape = record {
  groups = refl;
  comment = refl;
  variable = refl;
  sorts = kind_sorted;
  beside = λ o. rw (among_operators o) refl;
}

outer_shape : IsRuleShape (shape_of sort.Rule None)
unfolding inner_rule_rows rule_rows
outer_shape = record {
  groups = refl;
  comment = refl;
  variable = refl;
  sorts = λ k. sort_in-append inner_rule_rows _ sort.Unknown (kind_name k) (kind_stood k).in_rows ∙ kind_sorted k;
  beside = λ o. rw (among_operators o) refl;
}

pub ruled : (ms : Pairs) → IsRule ms → Ruled ms
ruled ms (outer names c) = within names (shape_of sort.Rule None) ms outer_shape c
ruled ms (inner names c) = within names (shape_of sort.InnerRule None) ms inner_shape c
