-- Equality of rules and of tests says whether they are one.
use Rattle.std.specs.Prelude.{◌≡◌, ℕ, List, Bool, true, false, ◌&&◌, refl}
use Rattle.std.proofs.Common.{sym, ap, subst}
use Rattle.std.specs.Bool.{Decides}
use Rattle.std.specs.Cmp.Lexicographic.{same_text}
use Rattle.std.specs.Cmp.{IsPartialEquivalence, IsEquivalence, on_equiv, decided, partial_equiv_from_equiv}
use Rattle.asl_json.specs.Same.{bool_eq, bytes_eq}
use Rattle.asl_json.specs.private.SameLaws.{bytes_refl, json_equivalence}
use Rattle.asl_json.specs.declared.value.Json.TheVariants.{Dict}
use Rattle.asl_choice.specs.declared.operator.Order.{Order}
use Rattle.asl_choice.specs.declared.operator.Order.TheVariants as order
use Rattle.asl_choice.specs.declared.operator.Property.{Property}
use Rattle.asl_choice.specs.declared.operator.Property.TheVariants as property
use Rattle.asl_choice.specs.declared.comparison.Comparison.{Comparison}
use Rattle.asl_choice.specs.declared.comparison.Comparison.TheVariants.{String, StringPath, Numeric, NumericPath, Timestamp, TimestampPath, Boolean, BooleanPath, Matches, Is}
use Rattle.asl_choice.specs.contracts.operator.OrderEq.TheImpl.Laws as order_laws
use Rattle.asl_choice.specs.contracts.operator.PropertyEq.TheImpl.Laws as property_laws
use Rattle.asl_choice.specs.Equal.{rule_equal, order_eq, property_eq, comparison_equal}

pub rule_equivalence : IsEquivalence rule_equal
rule_equivalence = on_equiv Dict json_equivalence

pub rule_laws : IsPartialEquivalence rule_equal
rule_laws = partial_equiv_from_equiv rule_equivalence

-- ---- tests

split : (a b : Bool) → (a && b) ≡ true → (a ≡ true) × (b ≡ true)
split true b e = (refl, e)
split false b e = absurd cc

bool_refl : (a : Bool) → bool_eq a a ≡ true
bool_refl true = refl
bool_refl false = refl

bool_true : (a b : Bool) → bool_eq a b ≡ true → a ≡ b
bool_true true true e = refl
bool_true false false e = refl
bool_true true false e = absurd cc
bool_true false true e = absurd cc

pub order_true : (o p : Order) → order_eq o p ≡ true → o ≡ p
order_true order.Equals order.Equals e = refl
order_true order.LessThan order.LessThan e = refl
order_true order.GreaterThan order.GreaterThan e = refl
order_true order.LessThanEquals order.LessThanEquals e = refl
order_true order.GreaterThanEquals order.GreaterThanEquals e = refl
order_true o p e = absurd cc

pub property_true : (o p : Property) → property_eq o p ≡ true → o ≡ p
property_true property.Null property.Null e = refl
property_true property.Present property.Present e = refl
property_true property.Numeric property.Numeric e = refl
property_true property.String property.String e = refl
property_true property.Boolean property.Boolean e = refl
property_true property.Timestamp property.Timestamp e = refl
property_true o p e = absurd cc

texts_true : (o p : Order) (a b : List ℕ) → (order_eq o p && bytes_eq a b) ≡ true
    → (o ≡ p) × (a ≡ b)
texts_true o p a b e =
    let h = split (order_eq o p) (bytes_eq a b) e in (order_true o p h.0, same_text a b (sym h.1))

compare_true : (c d : Comparison) → comparison_equal c d ≡ true → c ≡ d
compare_true (String o a) (String p b) e =
    let h = texts_true o p a b e in λ i. String (h.0 i) (h.1 i)
compare_true (StringPath o a) (StringPath p b) e =
    let h = texts_true o p a b e in λ i. StringPath (h.0 i) (h.1 i)
compare_true (Numeric o a) (Numeric p b) e =
    let h = texts_true o p a b e in λ i. Numeric (h.0 i) (h.1 i)
compare_true (NumericPath o a) (NumericPath p b) e =
    let h = texts_true o p a b e in λ i. NumericPath (h.0 i) (h.1 i)
compare_true (Timestamp o a) (Timestamp p b) e =
    let h = texts_true o p a b e in λ i. Timestamp (h.0 i) (h.1 i)
compare_true (TimestampPath o a) (TimestampPath p b) e =
    let h = texts_true o p a b e in λ i. TimestampPath (h.0 i) (h.1 i)
compare_true (Boolean a) (Boolean b) e = ap Boolean (bool_true a b e)
compare_true (BooleanPath a) (BooleanPath b) e = ap BooleanPath (same_text a b (sym e))
compare_true (Matches a) (Matches b) e = ap Matches (same_text a b (sym e))
compare_true (Is o a) (Is p b) e =
    let h = split (property_eq o p) (bool_eq a b) e in
    λ i. Is (property_true o p h.0 i) (bool_true a b h.1 i)
compare_true c d e = absurd cc

texts_refl : (o : Order) (a : List ℕ) → (order_eq o o && bytes_eq a a) ≡ true
texts_refl o a = λ i. (order_laws.laws-law).refl o i && bytes_refl a i

compare_refl : (c : Comparison) → comparison_equal c c ≡ true
compare_refl (String o a) = texts_refl o a
compare_refl (StringPath o a) = texts_refl o a
compare_refl (Numeric o a) = texts_refl o a
compare_refl (NumericPath o a) = texts_refl o a
compare_refl (Timestamp o a) = texts_refl o a
compare_refl (TimestampPath o a) = texts_refl o a
compare_refl (Boolean a) = bool_refl a
compare_refl (BooleanPath a) = bytes_refl a
compare_refl (Matches a) = bytes_refl a
compare_refl (Is o a) = λ i. (property_laws.laws-law).refl o i && bool_refl a i

pub comparison_decides : (c d : Comparison) → Decides (comparison_equal c d) (c ≡ d)
comparison_decides c d = (
  compare_true c d,
  λ e. subst (λ (x : Comparison). comparison_equal c x ≡ true) e (compare_refl c),
)

pub comparison_equivalence : IsEquivalence comparison_equal
comparison_equivalence = decided comparison_equal comparison_decides

pub comparison_laws : IsPartialEquivalence comparison_equal
comparison_laws = partial_equiv_from_equiv comparison_equivalence
