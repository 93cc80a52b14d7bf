-- Two comparisons of one variable that no value passes both. (Amazon States Language, "Choice State".)
use Rattle.std.specs.Prelude.{ℕ, List, [], ◌∷◌, Bool, true, false, ◌&&◌, ◌||◌, not, nat_eq, Option, Some, None, codes, if◌then◌else◌}
use Rattle.std.specs.List.{starts_with}
use Rattle.std.specs.Ordering.{int_eq}
use Rattle.asl_json_data.specs.Data.{Data, boolean, number, text}
use Rattle.asl_json_data.specs.Distinct.{Members}
use Rattle.asl_json_data.specs.Number.{units_of}
use Rattle.asl_json.specs.Same.{bool_eq, bytes_eq}
use Rattle.asl_time.specs.Fields.{moment_in}
use Rattle.asl_lint_choices.specs.declared.comparison.Kind.{Kind}
use Rattle.asl_lint_choices.specs.declared.comparison.Kind.TheVariants.{Text, Number, Truth}

-- a comparison as it is written
pub record Compared : Type 0 where
  -- a path
  pub variable : List ℕ
  pub operator : List ℕ
  pub operand : Data

abbrev pub compared : List ℕ → List ℕ → Data → Compared
compared p o d = record { variable = p; operator = o; operand = d }

abbrev pub compared_at : Data → List ℕ → Data → Option Compared
compared_at (text p) o d = Some (compared p o d)
compared_at v o d = None

abbrev pub comparison_in : List ℕ × Data → List ℕ × Data → Option Compared
comparison_in v m = if bytes_eq v.0 (codes "Variable") then compared_at v.1 m.0 m.1 else None

-- the comparison that a condition is: it has a variable and one more member, before it or behind
abbrev pub comparison : Members → Option Compared
comparison (m ∷ n ∷ []) =
    if bytes_eq m.0 (codes "Variable") then comparison_in m n else comparison_in n m
comparison ms = None

-- ---- by their types

-- the name of an operator begins so
abbrev pub begins : List ℕ → List ℕ → Bool
begins word o = starts_with nat_eq o word

-- the type of the values that pass some comparison by this operator: a timestamp is a text
abbrev pub wanted : List ℕ → Option Kind
wanted o =
    if begins (codes "String") o || begins (codes "Timestamp") o then Some Text
    else if begins (codes "Numeric") o then Some Number
    else if begins (codes "Boolean") o then Some Truth
    else None

abbrev pub is_other : Kind → Kind → Bool
is_other Text Text = false
is_other Number Number = false
is_other Truth Truth = false
is_other a b = true

abbrev pub are_others : Option Kind → Option Kind → Bool
are_others (Some a) (Some b) = is_other a b
are_others a b = false

-- ---- by their constants

abbrev pub texts_differ : Data → Data → Bool
texts_differ (text a) (text b) = not (bytes_eq a b)
texts_differ a b = false

-- by amount, whatever their spelling
abbrev pub numbers_differ : Data → Data → Bool
numbers_differ (number a) (number b) = not (int_eq (units_of a) (units_of b))
numbers_differ a b = false

abbrev pub truths_differ : Data → Data → Bool
truths_differ (boolean a) (boolean b) = not (bool_eq a b)
truths_differ a b = false

abbrev pub are_apart : Option ℕ → Option ℕ → Bool
are_apart (Some m) (Some n) = not (nat_eq m n)
are_apart m n = false

-- by moment; what is no timestamp has none
abbrev pub moments_differ : Data → Data → Bool
moments_differ (text a) (text b) = are_apart (moment_in a) (moment_in b)
moments_differ a b = false

-- by this operator, where it wants the variable to be the operand
abbrev pub constants_differ : List ℕ → Data → Data → Bool
constants_differ o a b =
    if bytes_eq o (codes "StringEquals") then texts_differ a b
    else if bytes_eq o (codes "NumericEquals") then numbers_differ a b
    else if bytes_eq o (codes "BooleanEquals") then truths_differ a b
    else if bytes_eq o (codes "TimestampEquals") then moments_differ a b
    else false

-- ---- both

abbrev pub exclude_each_other : Compared → Compared → Bool
exclude_each_other a b =
    bytes_eq a.variable b.variable
    && (are_others (wanted a.operator) (wanted b.operator)
    || (bytes_eq a.operator b.operator && constants_differ a.operator a.operand b.operand))

abbrev pub exclude_by : Option Compared → Option Compared → Bool
exclude_by (Some a) (Some b) = exclude_each_other a b
exclude_by a b = false

-- of two conditions
abbrev pub exclude_as_comparisons : Members → Members → Bool
exclude_as_comparisons a b = exclude_by (comparison a) (comparison b)
