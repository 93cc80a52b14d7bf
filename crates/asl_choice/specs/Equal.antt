-- Rules are equal where their members are, and tests where operator and operand are, numbers and
-- timestamps by their spelling.
use Rattle.std.specs.Prelude.{List, Bool, false, ◌&&◌}
use Rattle.asl_json_data.specs.Data.{pairs}
use Rattle.asl_json.specs.Same.{bool_eq, bytes_eq, equal_members}
use Rattle.asl_def_schema.specs.Canon.{Named}
use Rattle.asl_choice.specs.declared.operator.Order.{Order}
use Rattle.asl_choice.specs.declared.operator.Property.{Property}
use Rattle.asl_choice.specs.declared.comparison.Comparison.{Comparison}
use Rattle.asl_choice.specs.declared.comparison.Comparison.TheVariants.{String, StringPath, Numeric, NumericPath, Timestamp, TimestampPath, Boolean, BooleanPath, Matches, Is}
use Rattle.asl_choice.specs.contracts.operator.OrderPartialEq.TheImpl as orders
use Rattle.asl_choice.specs.contracts.operator.PropertyPartialEq.TheImpl as properties

abbrev pub rule_equal : List Named → List Named → Bool
rule_equal a b = equal_members (pairs a) (pairs b)

abbrev pub order_eq : Order → Order → Bool
order_eq = (orders.ghosts).eq

abbrev pub property_eq : Property → Property → Bool
property_eq = (properties.ghosts).eq

abbrev pub comparison_equal : Comparison → Comparison → Bool
comparison_equal (String o a) (String p b) = order_eq o p && bytes_eq a b
comparison_equal (StringPath o a) (StringPath p b) = order_eq o p && bytes_eq a b
comparison_equal (Numeric o a) (Numeric p b) = order_eq o p && bytes_eq a b
comparison_equal (NumericPath o a) (NumericPath p b) = order_eq o p && bytes_eq a b
comparison_equal (Timestamp o a) (Timestamp p b) = order_eq o p && bytes_eq a b
comparison_equal (TimestampPath o a) (TimestampPath p b) = order_eq o p && bytes_eq a b
comparison_equal (Boolean a) (Boolean b) = bool_eq a b
comparison_equal (BooleanPath a) (BooleanPath b) = bytes_eq a b
comparison_equal (Matches a) (Matches b) = bytes_eq a b
comparison_equal (Is o a) (Is p b) = property_eq o p && bool_eq a b
comparison_equal c d = false
