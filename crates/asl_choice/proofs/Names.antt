-- The names of what decides a rule, and what stands at them.
use Rattle.std.proofs.Common.{◌≡◌, ℕ, ◌<◌, zero, suc, length, get_or, arith, List, [], ◌∷◌, Bool, true, false, ◌||◌, ◌&&◌, not, refl, sym, subst}
use Rattle.std.specs.Prelude.{codes}
use Rattle.std.specs.Cmp.Lexicographic.{same_text}
use Rattle.asl_json.specs.Same.{bytes_eq}
use Rattle.asl_def_schema.specs.declared.sort.Sort.TheVariants.{InnerRule, InnerRules, Unknown}
use Rattle.asl_def_schema.specs.Members.{Row, optional, is_among, sort_in, row_names, operators, inner_rule_rows, test_rows}
use Rattle.asl_choice.specs.declared.operator.Order.{Order}
use Rattle.asl_choice.specs.declared.operator.Order.TheVariants as order
use Rattle.asl_choice.specs.declared.operator.Property.{Property}
use Rattle.asl_choice.specs.declared.operator.Property.TheVariants as property
use Rattle.asl_choice.specs.declared.operator.Operator.{Operator}
use Rattle.asl_choice.specs.declared.operator.Operator.TheVariants as operator
use Rattle.asl_choice.specs.declared.operator.RuleKind.{RuleKind}
use Rattle.asl_choice.specs.declared.operator.RuleKind.TheVariants as kind
use Rattle.asl_choice.specs.declared.operator.Row.{Row as NamedKind}
use Rattle.asl_choice.specs.Rules.{operator_name, kind_name, kind_names, kind_sort, are_named}

each_order : (P : Order → Type 0) → P order.Equals → P order.LessThan → P order.GreaterThan → P order.LessThanEquals → P order.GreaterThanEquals → (o : Order) → P o
each_order P a b c d e order.Equals = a
each_order P a b c d e order.LessThan = b
each_order P a b c d e order.GreaterThan = c
each_order P a b c d e order.LessThanEquals = d
each_order P a b c d e order.GreaterThanEquals = e

each_property : (P : Property → Type 0) → P property.Null → P property.Present → P property.Numeric → P property.String → P property.Boolean → P property.Timestamp → (p : Property) → P p
each_property P a b c d e f property.Null = a
each_property P a b c d e f property.Present = b
each_property P a b c d e f property.Numeric = c
each_property P a b c d e f property.String = d
each_property P a b c d e f property.Boolean = e
each_property P a b c d e f property.Timestamp = f

pub among_operators : (o : Operator) → is_among (operator_name o) operators ≡ true
unfolding operators test_rows
among_operators (operator.String o) = each_order (λ o. is_among (operator_name (operator.String o)) operators ≡ true) refl refl refl refl refl o
among_operators (operator.StringPath o) = each_order (λ o. is_among (operator_name (operator.StringPath o)) operators ≡ true) refl refl refl refl refl o
among_operators (operator.Numeric o) = each_order (λ o. is_among (operator_name (operator.Numeric o)) operators ≡ true) refl refl refl refl refl o
among_operators (operator.NumericPath o) = each_order (λ o. is_among (operator_name (operator.NumericPath o)) operators ≡ true) refl refl refl refl refl o
among_operators (operator.Timestamp o) = each_order (λ o. is_among (operator_name (operator.Timestamp o)) operators ≡ true) refl refl refl refl refl o
among_operators (operator.TimestampPath o) = each_order (λ o. is_among (operator_name (operator.TimestampPath o)) operators ≡ true) refl refl refl refl refl o
among_operators operator.Boolean = refl
among_operators operator.BooleanPath = refl
among_operators operator.Matches = refl
among_operators (operator.Is p) = each_property (λ p. is_among (operator_name (operator.Is p)) operators ≡ true) refl refl refl refl refl refl p

pub kind_sorted : (k : RuleKind) → sort_in inner_rule_rows Unknown (kind_name k) ≡ kind_sort k
unfolding inner_rule_rows test_rows
kind_sorted (kind.Test (operator.String o)) = each_order (λ o. sort_in inner_rule_rows Unknown (kind_name (kind.Test (operator.String o))) ≡ kind_sort (kind.Test (operator.String o))) refl refl refl refl refl o
kind_sorted (kind.Test (operator.StringPath o)) = each_order (λ o. sort_in inner_rule_rows Unknown (kind_name (kind.Test (operator.StringPath o))) ≡ kind_sort (kind.Test (operator.StringPath o))) refl refl refl refl refl o
kind_sorted (kind.Test (operator.Numeric o)) = each_order (λ o. sort_in inner_rule_rows Unknown (kind_name (kind.Test (operator.Numeric o))) ≡ kind_sort (kind.Test (operator.Numeric o))) refl refl refl refl refl o
kind_sorted (kind.Test (operator.NumericPath o)) = each_order (λ o. sort_in inner_rule_rows Unknown (kind_name (kind.Test (operator.NumericPath o))) ≡ kind_sort (kind.Test (operator.NumericPath o))) refl refl refl refl refl o
kind_sorted (kind.Test (operator.Timestamp o)) = each_order (λ o. sort_in inner_rule_rows Unknown (kind_name (kind.Test (operator.Timestamp o))) ≡ kind_sort (kind.Test (operator.Timestamp o))) refl refl refl refl refl o
kind_sorted (kind.Test (operator.TimestampPath o)) = each_order (λ o. sort_in inner_rule_rows Unknown (kind_name (kind.Test (operator.TimestampPath o))) ≡ kind_sort (kind.Test (operator.TimestampPath o))) refl refl refl refl refl o
kind_sorted (kind.Test operator.Boolean) = refl
kind_sorted (kind.Test operator.BooleanPath) = refl
kind_sorted (kind.Test operator.Matches) = refl
kind_sorted (kind.Test (operator.Is p)) = each_property (λ p. sort_in inner_rule_rows Unknown (kind_name (kind.Test (operator.Is p))) ≡ kind_sort (kind.Test (operator.Is p))) refl refl refl refl refl refl p
kind_sorted kind.And = refl
kind_sorted kind.Or = refl
kind_sorted kind.Not = refl

-- ---- names apart

-- exactly one of these rows has the name
abbrev pub is_once : List ℕ → List (List ℕ) → Bool
is_once k [] = false
is_once k (l ∷ ls) = (bytes_eq k l && not (is_among k ls)) || (not (bytes_eq k l) && is_once k ls)

-- the rows of what decides a rule
abbrev pub deciding_rows : List Row
deciding_rows = optional (codes "And") InnerRules ∷ optional (codes "Or") InnerRules ∷ optional (codes "Not") InnerRule ∷ test_rows

abbrev is_apart : List ℕ → Bool
is_apart n = not (bytes_eq n (codes "End")) && (not (bytes_eq n (codes "Variable")) && (not (bytes_eq n (codes "Comment")) && not (bytes_eq (codes "Next") n)))

abbrev stands : List ℕ → Bool
stands n = is_among n kind_names && (is_once n (row_names deciding_rows) && (is_among n (row_names inner_rule_rows) && is_apart n))

kind_stands : (k : RuleKind) → stands (kind_name k) ≡ true
unfolding operators inner_rule_rows test_rows
kind_stands (kind.Test (operator.String o)) = each_order (λ o. stands (operator_name (operator.String o)) ≡ true) refl refl refl refl refl o
kind_stands (kind.Test (operator.StringPath o)) = each_order (λ o. stands (operator_name (operator.StringPath o)) ≡ true) refl refl refl refl refl o
kind_stands (kind.Test (operator.Numeric o)) = each_order (λ o. stands (operator_name (operator.Numeric o)) ≡ true) refl refl refl refl refl o
kind_stands (kind.Test (operator.NumericPath o)) = each_order (λ o. stands (operator_name (operator.NumericPath o)) ≡ true) refl refl refl refl refl o
kind_stands (kind.Test (operator.Timestamp o)) = each_order (λ o. stands (operator_name (operator.Timestamp o)) ≡ true) refl refl refl refl refl o
kind_stands (kind.Test (operator.TimestampPath o)) = each_order (λ o. stands (operator_name (operator.TimestampPath o)) ≡ true) refl refl refl refl refl o
kind_stands (kind.Test operator.Boolean) = refl
kind_stands (kind.Test operator.BooleanPath) = refl
kind_stands (kind.Test operator.Matches) = refl
kind_stands (kind.Test (operator.Is p)) = each_property (λ p. stands (operator_name (operator.Is p)) ≡ true) refl refl refl refl refl refl p
kind_stands kind.And = refl
kind_stands kind.Or = refl
kind_stands kind.Not = refl

both : (a b : Bool) → (a && b) ≡ true → (a ≡ true) × (b ≡ true)
both true b e = (refl, e)
both false b e = absurd cc

isnt : (a : Bool) → not a ≡ true → a ≡ false
isnt true e = absurd cc
isnt false e = refl

pub record Stands (n : List ℕ) : Type 0 where
  pub among : is_among n kind_names ≡ true
  pub once : is_once n (row_names deciding_rows) ≡ true
  pub in_rows : is_among n (row_names inner_rule_rows) ≡ true
  pub not_end : bytes_eq n (codes "End") ≡ false
  pub not_variable : bytes_eq n (codes "Variable") ≡ false
  pub not_comment : bytes_eq n (codes "Comment") ≡ false
  pub not_next : bytes_eq (codes "Next") n ≡ false

parts : (n : List ℕ) → stands n ≡ true → Stands n
parts n e =
    let a = both (is_among n kind_names) (is_once n (row_names deciding_rows) && (is_among n (row_names inner_rule_rows) && is_apart n)) e in
    let b = both (is_once n (row_names deciding_rows)) (is_among n (row_names inner_rule_rows) && is_apart n) a.1 in
    let c = both (is_among n (row_names inner_rule_rows)) (is_apart n) b.1 in
    let d = both (not (bytes_eq n (codes "End"))) (not (bytes_eq n (codes "Variable")) && (not (bytes_eq n (codes "Comment")) && not (bytes_eq (codes "Next") n))) c.1 in
    let f = both (not (bytes_eq n (codes "Variable"))) (not (bytes_eq n (codes "Comment")) && not (bytes_eq (codes "Next") n)) d.1 in
    let g = both (not (bytes_eq n (codes "Comment"))) (not (bytes_eq (codes "Next") n)) f.1 in
    record {
      among = a.0;
      once = b.0;
      in_rows = c.0;
      not_end = isnt (bytes_eq n (codes "End")) d.0;
      not_variable = isnt (bytes_eq n (codes "Variable")) f.0;
      not_comment = isnt (bytes_eq n (codes "Comment")) g.0;
      not_next = isnt (bytes_eq (codes "Next") n) g.1;
    }

pub kind_stood : (k : RuleKind) → Stands (kind_name k)
kind_stood k = parts (kind_name k) (kind_stands k)

-- one that is among these differs from one that isn't
pub apart : (k l : List ℕ) (ks : List (List ℕ)) → is_among k ks ≡ false → is_among l ks ≡ true → bytes_eq k l ≡ false
apart k l ks e f = by (bytes_eq k l) refl
  where
    by : (b : Bool) → bytes_eq k l ≡ b → bytes_eq k l ≡ false
    by false p = p
    by true p = absurd (let same : is_among l ks ≡ false = subst (λ (n : List ℕ). is_among n ks ≡ false) (same_text k l (sym p)) e in cc)

pub apart_from : (k l : List ℕ) (ks : List (List ℕ)) → is_among k ks ≡ false → is_among l ks ≡ true → bytes_eq l k ≡ false
apart_from k l ks e f = by (bytes_eq l k) refl
  where
    by : (b : Bool) → bytes_eq l k ≡ b → bytes_eq l k ≡ false
    by false p = p
    by true p = absurd (let same : is_among l ks ≡ false = subst (λ (n : List ℕ). is_among n ks ≡ false) (sym (same_text l k (sym p))) e in cc)

-- ---- the table of names

pub named_in : (rs : List NamedKind) (i : ℕ) (r : NamedKind) → are_named rs ≡ true → i < length rs → kind_name (get_or rs i r).1 ≡ (get_or rs i r).0.now
named_in [] i r h lt = absurd (omega arith)
named_in (x ∷ rs) zero r h lt = same_text (kind_name x.1) x.0.now (sym (both (bytes_eq (kind_name x.1) x.0.now) (are_named rs) h).0)
named_in (x ∷ rs) (suc i) r h lt = named_in rs i r (both (bytes_eq (kind_name x.1) x.0.now) (are_named rs) h).1 (omega arith)
