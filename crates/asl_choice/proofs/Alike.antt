-- Rules are equal where their parts are.
use Rattle.std.proofs.Common.{◌≡◌, ◌∙◌, ℕ, Bool, true, false, List, [], ◌∷◌, refl, sym, ap, subst}
use Rattle.std.specs.Prelude.{◌&&◌, Option, Some, None, if◌then◌else◌}
use Rattle.std.specs.Bool.{Decides, one_answer}
use Rattle.std.specs.Cmp.Lexicographic.{same_text}
use Rattle.asl_json_data.specs.Data.{Data, boolean, number, text, pairs}
use Rattle.asl_json.specs.Same.{equal, equal_members, bytes_eq}
use Rattle.asl_json.specs.private.SameLaws.{bytes_refl, equal_true, equal_refl}
use Rattle.asl_choice.specs.declared.operator.Order.TheVariants as order
use Rattle.asl_choice.specs.declared.operator.Property.TheVariants as property
use Rattle.asl_choice.specs.declared.operator.Operator.{Operator}
use Rattle.asl_choice.specs.declared.operator.Operator.TheVariants as operator
use Rattle.asl_choice.specs.declared.comparison.Comparison.{Comparison}
use Rattle.asl_choice.specs.declared.comparison.Comparison.TheVariants as comparison
use Rattle.asl_choice.specs.declared.comparison.Test.{Test as Tested}
use Rattle.asl_choice.specs.declared.rule.Condition.TheVariants.{Test}
use Rattle.asl_choice.specs.contracts.comparison.TestPartialEq.TheImpl as tests
use Rattle.asl_choice.specs.private.EqualLaws.{comparison_decides}
use Rattle.asl_choice.specs.Rules.{comparison_operator, operand, operator_name, condition_named}

split : (a b : Bool) → (a && b) ≡ true → (a ≡ true) × (b ≡ true)
split true b e = (refl, e)
split false b e = absurd cc

-- ---- operators by their names

operators : List Operator
operators =
    (operator.String order.Equals) ∷ (operator.String order.LessThan) ∷ (operator.String
    order.GreaterThan) ∷ (operator.String order.LessThanEquals) ∷ (operator.String
    order.GreaterThanEquals) ∷ (operator.StringPath order.Equals) ∷ (operator.StringPath
    order.LessThan) ∷ (operator.StringPath order.GreaterThan) ∷ (operator.StringPath
    order.LessThanEquals) ∷ (operator.StringPath order.GreaterThanEquals) ∷ (operator.Numeric
    order.Equals) ∷ (operator.Numeric order.LessThan) ∷ (operator.Numeric order.GreaterThan) ∷
    (operator.Numeric order.LessThanEquals) ∷ (operator.Numeric order.GreaterThanEquals) ∷
    (operator.NumericPath order.Equals) ∷ (operator.NumericPath order.LessThan) ∷
    (operator.NumericPath order.GreaterThan) ∷ (operator.NumericPath order.LessThanEquals) ∷
    (operator.NumericPath order.GreaterThanEquals) ∷ (operator.Timestamp order.Equals) ∷
    (operator.Timestamp order.LessThan) ∷ (operator.Timestamp order.GreaterThan) ∷
    (operator.Timestamp order.LessThanEquals) ∷ (operator.Timestamp order.GreaterThanEquals) ∷
    (operator.TimestampPath order.Equals) ∷ (operator.TimestampPath order.LessThan) ∷
    (operator.TimestampPath order.GreaterThan) ∷ (operator.TimestampPath order.LessThanEquals) ∷
    (operator.TimestampPath order.GreaterThanEquals) ∷ operator.Boolean ∷ operator.BooleanPath ∷
    operator.Matches ∷ (operator.Is property.Null) ∷ (operator.Is property.Present) ∷ (operator.Is
    property.Numeric) ∷ (operator.Is property.String) ∷ (operator.Is property.Boolean) ∷
    (operator.Is property.Timestamp) ∷ []

opened : List Operator → List ℕ → Option Operator
opened [] k = None
opened (o ∷ os) k = if bytes_eq k (operator_name o) then Some o else opened os k

found : (o : Operator) → opened operators (operator_name o) ≡ Some o
unfolding opened operators
found (operator.String order.Equals) = refl
found (operator.String order.LessThan) = refl
found (operator.String order.GreaterThan) = refl
found (operator.String order.LessThanEquals) = refl
found (operator.String order.GreaterThanEquals) = refl
found (operator.StringPath order.Equals) = refl
found (operator.StringPath order.LessThan) = refl
found (operator.StringPath order.GreaterThan) = refl
found (operator.StringPath order.LessThanEquals) = refl
found (operator.StringPath order.GreaterThanEquals) = refl
found (operator.Numeric order.Equals) = refl
found (operator.Numeric order.LessThan) = refl
found (operator.Numeric order.GreaterThan) = refl
found (operator.Numeric order.LessThanEquals) = refl
found (operator.Numeric order.GreaterThanEquals) = refl
found (operator.NumericPath order.Equals) = refl
found (operator.NumericPath order.LessThan) = refl
found (operator.NumericPath order.GreaterThan) = refl
found (operator.NumericPath order.LessThanEquals) = refl
found (operator.NumericPath order.GreaterThanEquals) = refl
found (operator.Timestamp order.Equals) = refl
found (operator.Timestamp order.LessThan) = refl
found (operator.Timestamp order.GreaterThan) = refl
found (operator.Timestamp order.LessThanEquals) = refl
found (operator.Timestamp order.GreaterThanEquals) = refl
found (operator.TimestampPath order.Equals) = refl
found (operator.TimestampPath order.LessThan) = refl
found (operator.TimestampPath order.GreaterThan) = refl
found (operator.TimestampPath order.LessThanEquals) = refl
found (operator.TimestampPath order.GreaterThanEquals) = refl
found operator.Boolean = refl
found operator.BooleanPath = refl
found operator.Matches = refl
found (operator.Is property.Null) = refl
found (operator.Is property.Present) = refl
found (operator.Is property.Numeric) = refl
found (operator.Is property.String) = refl
found (operator.Is property.Boolean) = refl
found (operator.Is property.Timestamp) = refl

or_boolean : Option Operator → Operator
or_boolean (Some o) = o
or_boolean None = operator.Boolean

one_operator : (a b : Operator) → operator_name a ≡ operator_name b → a ≡ b
unfolding or_boolean
one_operator a b e = ap or_boolean (sym (found a) ∙ ap (opened operators) e ∙ found b)

-- ---- tests

made : Operator → Data → Comparison
made (operator.String o) (text t) = comparison.String o t
made (operator.StringPath o) (text p) = comparison.StringPath o p
made (operator.Numeric o) (number n) = comparison.Numeric o n
made (operator.NumericPath o) (text p) = comparison.NumericPath o p
made (operator.Timestamp o) (text t) = comparison.Timestamp o t
made (operator.TimestampPath o) (text p) = comparison.TimestampPath o p
made operator.Boolean (boolean b) = comparison.Boolean b
made operator.BooleanPath (text p) = comparison.BooleanPath p
made operator.Matches (text t) = comparison.Matches t
made (operator.Is q) (boolean b) = comparison.Is q b
made o d = comparison.Boolean true

made_is : (c : Comparison) → made (comparison_operator c) (operand c) ≡ c
unfolding made
made_is (comparison.String o t) = refl
made_is (comparison.StringPath o p) = refl
made_is (comparison.Numeric o n) = refl
made_is (comparison.NumericPath o p) = refl
made_is (comparison.Timestamp o t) = refl
made_is (comparison.TimestampPath o p) = refl
made_is (comparison.Boolean b) = refl
made_is (comparison.BooleanPath p) = refl
made_is (comparison.Matches t) = refl
made_is (comparison.Is q b) = refl

abbrev shown_equal : Comparison → Comparison → Bool
shown_equal c d = bytes_eq (operator_name (comparison_operator c)) (operator_name (comparison_operator d)) && (equal (operand c) (operand d) && true)

shown_decides : (c d : Comparison) → Decides (shown_equal c d) (c ≡ d)
shown_decides c d = (
  λ e.
      let h = split (bytes_eq (operator_name (comparison_operator c)) (operator_name (comparison_operator d))) (equal (operand c) (operand d) && true) e in
      let g = split (equal (operand c) (operand d)) true h.1 in
      let o = one_operator (comparison_operator c) (comparison_operator d) (same_text _ _ (sym h.0)) in
      sym (made_is c) ∙ (λ i. made (o i) (equal_true (operand c) (operand d) g.0 i)) ∙ made_is d,
  λ e. subst (λ (x : Comparison). shown_equal c x ≡ true) e
      (λ i. bytes_refl (operator_name (comparison_operator c)) i && (equal_refl (operand c) i && true)),
)

pub test_alike : (x y : Tested) → equal_members (pairs (condition_named (Test x))) (pairs (condition_named (Test y))) ≡ (tests.ghosts).eq x y
test_alike x y = ap (λ r. bytes_eq x.variable y.variable && r) (one_answer _ _ (shown_decides x.comparison y.comparison) (comparison_decides x.comparison y.comparison))
