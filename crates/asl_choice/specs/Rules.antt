-- Rules of Choice states. (Amazon States Language, "Choice State".)
use Rattle.std.specs.Prelude.{◌≡◌, ℕ, List, [], ◌∷◌, ◌++◌, Bool, true, ◌&&◌, Option, None, codes, map, option_map}
use Rattle.asl_json_data.specs.Data.{Data, boolean, number, text, list, dict, chain, Pairs, pairs}
use Rattle.asl_json.specs.Same.{bytes_eq}
use Rattle.asl_def_schema.specs.declared.sort.Sort.{Sort}
use Rattle.asl_def_schema.specs.declared.sort.Sort.TheVariants as sort
use Rattle.asl_def_schema.specs.Members.{Group, exactly_one, shape_of, operators, connectives, inner_rule_rows}
use Rattle.asl_def_schema.specs.Canon.{Named, opt, picked_at}
use Rattle.asl_def_schema.specs.Clean.{IsCleanInside, IsThere}
use Rattle.asl_choice.specs.declared.operator.Order.{Order}
use Rattle.asl_choice.specs.declared.operator.Order.TheVariants as order
use Rattle.asl_choice.specs.declared.operator.Property.{Property}
use Rattle.asl_choice.specs.declared.operator.Property.TheVariants as property
use Rattle.asl_choice.specs.declared.operator.Operator.{Operator}
use Rattle.asl_choice.specs.declared.operator.Operator.TheVariants as operator
use Rattle.asl_choice.specs.declared.operator.RuleKind.{RuleKind}
use Rattle.asl_choice.specs.declared.operator.Row.{Row}
use Rattle.asl_choice.specs.declared.operator.RuleKind.TheVariants as kind
use Rattle.asl_choice.specs.declared.comparison.Comparison.{Comparison}
use Rattle.asl_choice.specs.declared.comparison.Comparison.TheVariants as comparison
use Rattle.asl_choice.specs.declared.rule.Condition.{Condition}
use Rattle.asl_choice.specs.declared.rule.Condition.TheVariants as condition

-- ---- names

abbrev pub order_name : Order → List ℕ
order_name order.Equals = codes "Equals"
order_name order.LessThan = codes "LessThan"
order_name order.GreaterThan = codes "GreaterThan"
order_name order.LessThanEquals = codes "LessThanEquals"
order_name order.GreaterThanEquals = codes "GreaterThanEquals"

abbrev pub property_name : Property → List ℕ
property_name property.Null = codes "Null"
property_name property.Present = codes "Present"
property_name property.Numeric = codes "Numeric"
property_name property.String = codes "String"
property_name property.Boolean = codes "Boolean"
property_name property.Timestamp = codes "Timestamp"

-- of three parts
abbrev pub joined : List ℕ → List ℕ → List ℕ → List ℕ
joined subject relation mark = subject ++ (relation ++ mark)

abbrev pub operator_name : Operator → List ℕ
operator_name (operator.String o) = joined (codes "String") (order_name o) []
operator_name (operator.StringPath o) = joined (codes "String") (order_name o) (codes "Path")
operator_name (operator.Numeric o) = joined (codes "Numeric") (order_name o) []
operator_name (operator.NumericPath o) = joined (codes "Numeric") (order_name o) (codes "Path")
operator_name (operator.Timestamp o) = joined (codes "Timestamp") (order_name o) []
operator_name (operator.TimestampPath o) = joined (codes "Timestamp") (order_name o) (codes "Path")
operator_name operator.Boolean = codes "BooleanEquals"
operator_name operator.BooleanPath = codes "BooleanEqualsPath"
operator_name operator.Matches = codes "StringMatches"
operator_name (operator.Is p) = joined (codes "Is") (property_name p) []

abbrev pub kind_name : RuleKind → List ℕ
kind_name (kind.Test o) = operator_name o
kind_name kind.And = codes "And"
kind_name kind.Or = codes "Or"
kind_name kind.Not = codes "Not"

-- all of them
abbrev pub kind_names : List (List ℕ)
kind_names = operators ++ connectives

-- the table of names as the code has it

abbrev pub written : List Row → List (List ℕ)
written rs = map (λ (r : Row). r.0.now) rs

abbrev pub are_named : List Row → Bool
are_named [] = true
are_named (r ∷ rs) = bytes_eq (kind_name r.1) r.0.now && are_named rs

-- exactly one of them is in a rule
abbrev pub deciding : Group
deciding = exactly_one kind_names

-- ---- what their values are to be

abbrev pub operand_sort : Operator → Sort
operand_sort (operator.String o) = sort.Text
operand_sort (operator.StringPath o) = sort.Path
operand_sort (operator.Numeric o) = sort.Number
operand_sort (operator.NumericPath o) = sort.Path
operand_sort (operator.Timestamp o) = sort.Timestamp
operand_sort (operator.TimestampPath o) = sort.Path
operand_sort operator.Boolean = sort.Truth
operand_sort operator.BooleanPath = sort.Path
operand_sort operator.Matches = sort.Text
operand_sort (operator.Is p) = sort.Truth

abbrev pub kind_sort : RuleKind → Sort
kind_sort (kind.Test o) = operand_sort o
kind_sort kind.And = sort.InnerRules
kind_sort kind.Or = sort.InnerRules
kind_sort kind.Not = sort.InnerRule

-- a test has a variable
abbrev pub HasVariable : RuleKind → Option Data → Type 0
HasVariable (kind.Test o) v = IsThere sort.Path v
HasVariable _ v = v ≡ None

-- ---- a test as it is written

abbrev pub comparison_operator : Comparison → Operator
comparison_operator (comparison.String o t) = operator.String o
comparison_operator (comparison.StringPath o p) = operator.StringPath o
comparison_operator (comparison.Numeric o n) = operator.Numeric o
comparison_operator (comparison.NumericPath o p) = operator.NumericPath o
comparison_operator (comparison.Timestamp o t) = operator.Timestamp o
comparison_operator (comparison.TimestampPath o p) = operator.TimestampPath o
comparison_operator (comparison.Boolean b) = operator.Boolean
comparison_operator (comparison.BooleanPath p) = operator.BooleanPath
comparison_operator (comparison.Matches t) = operator.Matches
comparison_operator (comparison.Is p b) = operator.Is p

abbrev pub operand : Comparison → Data
operand (comparison.String o t) = text t
operand (comparison.StringPath o p) = text p
operand (comparison.Numeric o n) = number n
operand (comparison.NumericPath o p) = text p
operand (comparison.Timestamp o t) = text t
operand (comparison.TimestampPath o p) = text p
operand (comparison.Boolean b) = boolean b
operand (comparison.BooleanPath p) = text p
operand (comparison.Matches t) = text t
operand (comparison.Is p b) = boolean b

abbrev pub test_named : Comparison → Named
test_named c = (operator_name (comparison_operator c), operand c)

-- ---- a rule as it is written

abbrev pub rule_object : List Named → Data
rule_object ms = dict (pairs ms)

abbrev pub rule_list : List (List Named) → Data
rule_list rs = list (chain (map rule_object rs))

abbrev pub condition_named : Condition → List Named
condition_named (condition.And rs) = (codes "And", rule_list rs.items) ∷ []
condition_named (condition.Or rs) = (codes "Or", rule_list rs.items) ∷ []
condition_named (condition.Not r) = (codes "Not", rule_object r.value) ∷ []
condition_named (condition.Test t) =
    (codes "Variable", text t.variable) ∷ test_named t.comparison ∷ []

abbrev pub comment_named : Option (List ℕ) → List Named
comment_named t = opt (codes "Comment") (option_map text t)

-- the members of a rule
abbrev pub rule_named : Option (List ℕ) → Condition → List Named
rule_named comment c = comment_named comment ++ condition_named c

-- ---- the members of a rule in a definition

-- in which nothing is wrong, with its Next or without
pub data IsRule (ms : Pairs) : Type 0 where
  outer : (names : List ℕ → Bool) → IsCleanInside names (shape_of sort.Rule None) ms → IsRule ms
  inner : (names : List ℕ → Bool) → IsCleanInside names (shape_of sort.InnerRule None) ms
      → IsRule ms

-- in canonical form, without its Next
abbrev pub canonical_rule : Pairs → List Named
canonical_rule ms = picked_at (shape_of sort.InnerRule None) inner_rule_rows ms
