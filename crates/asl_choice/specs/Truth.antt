-- Which rules hold on an input x and a Context Object c. (Amazon States Language, "Choice State".)
-- A rule is read by the names of its members, from its object in canonical form.
use Rattle.std.specs.Prelude.{ℕ, List, [], ◌∷◌, ◌++◌, Bool, true, false, not, codes, map, ℤ, Option, Some, None, is_some, if◌then◌else◌, Result, Ok, Err}
use Rattle.std.specs.declared.cmp.Ordering.{Ordering}
use Rattle.std.specs.Ordering.{is_eq, is_lt, is_gt, is_le, is_ge, nat_cmp, int_cmp}
use Rattle.std.specs.Cmp.Lexicographic.{slice_cmp}
use Rattle.asl_json_data.specs.Results.{◌>>=◌}
use Rattle.asl_json_data.specs.Data.{Data, null, boolean, number, text, list, dict, Chain, no_items, item, Pairs, no_members, member}
use Rattle.asl_json_data.specs.Number.{units_of}
use Rattle.asl_json.specs.Same.{bool_eq, bytes_eq}
use Rattle.asl_json.specs.Meaning.{value_at}
use Rattle.asl_path.specs.Paths.{part_at}
use Rattle.asl_intrinsic.specs.Calls.{is_context}
use Rattle.asl_time.specs.Fields.{moment_in}
use Rattle.asl_choice.specs.declared.operator.Order.{Order}
use Rattle.asl_choice.specs.declared.operator.Order.TheVariants.{Equals, LessThan, GreaterThan, LessThanEquals, GreaterThanEquals}
use Rattle.asl_choice.specs.declared.operator.Property.{Property}
use Rattle.asl_choice.specs.declared.operator.Property.TheVariants as property
use Rattle.asl_choice.specs.declared.operator.Operator.{Operator}
use Rattle.asl_choice.specs.declared.operator.Operator.TheVariants as operator
use Rattle.asl_choice.specs.declared.operator.RuleKind.{RuleKind}
use Rattle.asl_choice.specs.declared.operator.RuleKind.TheVariants as kind
use Rattle.asl_choice.specs.Rules.{kind_name}
use Rattle.asl_choice.specs.Patterns.{tokens, has_open_escape, fits}

-- why it can't be said whether a rule holds
pub data Fault : Type 0 where
  -- this path names nothing
  missing : List ℕ → Fault
  -- a text is tested by a pattern with an open escape
  open_escape : Fault

abbrev pub Verdict : Type 0
Verdict = Result Bool Fault

-- go on with what was found
-- ---- values

-- what a value is, where it is of this type
abbrev pub text_of : Data → Option (List ℕ)
text_of (text t) = Some t
text_of d = None

-- a number's value in units of 10 ^ -9, whatever its spelling
abbrev pub amount_of : Data → Option ℤ
amount_of (number n) = Some (units_of n)
amount_of d = None

abbrev pub truth_of : Data → Option Bool
truth_of (boolean b) = Some b
truth_of d = None

abbrev pub moment_of : Data → Option ℕ
moment_of (text t) = moment_in t
moment_of d = None

-- what is asked of one value
abbrev pub has : Property → Data → Bool
has property.Null null = true
has property.Null d = false
has property.Present d = true
has property.Numeric d = is_some (amount_of d)
has property.String d = is_some (text_of d)
has property.Boolean d = is_some (truth_of d)
has property.Timestamp d = is_some (moment_of d)

-- ---- two values

-- how they stand to each other, where both are of the type
abbrev pub compared : {A : Type 0} → (A → A → Ordering) → Option A → Option A → Option Ordering
compared cmp None b = None
compared cmp (Some a) None = None
compared cmp (Some a) (Some b) = Some (cmp a b)

-- whether an order allows that; values of an unfit type stand in none
abbrev pub is_so : Order → Option Ordering → Bool
is_so o None = false
is_so Equals (Some r) = is_eq r
is_so LessThan (Some r) = is_lt r
is_so GreaterThan (Some r) = is_gt r
is_so LessThanEquals (Some r) = is_le r
is_so GreaterThanEquals (Some r) = is_ge r

-- texts by their bytes, numbers by value, timestamps by moment
abbrev pub texts : Order → Data → Data → Bool
texts o v w = is_so o (compared (slice_cmp nat_cmp) (text_of v) (text_of w))

abbrev pub numbers : Order → Data → Data → Bool
numbers o v w = is_so o (compared int_cmp (amount_of v) (amount_of w))

abbrev pub moments : Order → Data → Data → Bool
moments o v w = is_so o (compared nat_cmp (moment_of v) (moment_of w))

abbrev pub are_equal : Option Bool → Option Bool → Bool
are_equal (Some a) (Some b) = bool_eq a b
are_equal a b = false

abbrev pub truths : Data → Data → Bool
truths v w = are_equal (truth_of v) (truth_of w)

-- a text and a pattern
abbrev pub matched : Option (List ℕ) → Option (List ℕ) → Verdict
matched (Some t) (Some p) =
    if has_open_escape (tokens p) then Err open_escape else Ok (fits (tokens p) t)
matched a b = Ok false

-- ---- paths

-- the part of the input or of the Context Object that a path names
abbrev pub part : List ℕ → Data → Data → Option Data
part p x c = part_at p (if is_context p then c else x)

abbrev pub present : List ℕ → Option Data → Result Data Fault
present p (Some d) = Ok d
present p None = Err (missing p)

abbrev pub found : List ℕ → Data → Data → Result Data Fault
found p x c = present p (part p x c)

-- the value at a path of a definition, which is a text
abbrev pub at_path : Data → Data → Data → Result Data Fault
at_path (text p) x c = found p x c
at_path d x c = Ok d

-- what the variable is compared to, from the operand as it is written
abbrev pub operand_value : Operator → Data → Data → Data → Result Data Fault
operand_value (operator.StringPath o) d x c = at_path d x c
operand_value (operator.NumericPath o) d x c = at_path d x c
operand_value (operator.TimestampPath o) d x c = at_path d x c
operand_value operator.BooleanPath d x c = at_path d x c
operand_value o d x c = Ok d

-- ---- a test

-- of a value and what it is compared to
abbrev pub judged : Operator → Data → Data → Verdict
judged (operator.String o) v w = Ok (texts o v w)
judged (operator.StringPath o) v w = Ok (texts o v w)
judged (operator.Numeric o) v w = Ok (numbers o v w)
judged (operator.NumericPath o) v w = Ok (numbers o v w)
judged (operator.Timestamp o) v w = Ok (moments o v w)
judged (operator.TimestampPath o) v w = Ok (moments o v w)
judged operator.Boolean v w = Ok (truths v w)
judged operator.BooleanPath v w = Ok (truths v w)
judged operator.Matches v w = matched (text_of v) (text_of w)
judged (operator.Is p) v w = Ok (truths (boolean (has p v)) w)

-- Both paths are looked up before any type is judged: first the variable's, then the operand's.
abbrev pub looked_up : Operator → List ℕ → Data → Data → Data → Verdict
looked_up o p d x c = do
  v ← found p x c
  w ← operand_value o d x c
  judged o v w

-- of the variable at the path p by an operator with the operand d; IsPresent has an answer also
-- where nothing is found
abbrev pub test : Operator → List ℕ → Data → Data → Data → Verdict
test (operator.Is property.Present) p d x c = Ok (truths (boolean (is_some (part p x c))) d)
test (operator.Is q) p d x c = looked_up (operator.Is q) p d x c
test o p d x c = looked_up o p d x c

-- ---- a rule

abbrev pub orders : List Order
orders = Equals ∷ LessThan ∷ GreaterThan ∷ LessThanEquals ∷ GreaterThanEquals ∷ []

abbrev pub properties : List Property
properties =
    property.Null ∷ property.Present ∷ property.Numeric ∷ property.String ∷ property.Boolean
    ∷ property.Timestamp ∷ []

abbrev pub by_orders : (Order → Operator) → List RuleKind
by_orders f = map (λ (o : Order). kind.Test (f o)) orders

-- all that may decide a rule
abbrev pub kinds : List RuleKind
kinds =
    by_orders operator.String ++ by_orders operator.StringPath ++ by_orders operator.Numeric
    ++ by_orders operator.NumericPath
    ++ by_orders operator.Timestamp ++ by_orders operator.TimestampPath
    ++ (kind.Test operator.Boolean ∷ kind.Test operator.BooleanPath ∷ kind.Test operator.Matches
    ∷ [])
    ++ map (λ (p : Property). kind.Test (operator.Is p)) properties
    ++ (kind.And ∷ kind.Or ∷ kind.Not ∷ [])

-- the first of this name
abbrev pub kind_in : List RuleKind → List ℕ → Option RuleKind
kind_in [] n = None
kind_in (k ∷ ks) n = if bytes_eq n (kind_name k) then Some k else kind_in ks n

-- what a member of this name decides
abbrev pub kind_of : List ℕ → Option RuleKind
kind_of n = kind_in kinds n

-- the path in `Variable`; a rule without it has no test
abbrev pub variable : Option Data → List ℕ
variable (Some (text p)) = p
variable v = []

-- what is said by a kind, or by the other members where this one doesn't decide
abbrev pub chosen : Option RuleKind → Verdict → Verdict → Verdict → (Operator → Verdict) → Verdict
    → Verdict
chosen (Some kind.And) every some opposite tested others = every
chosen (Some kind.Or) every some opposite tested others = some
chosen (Some kind.Not) every some opposite tested others = opposite
chosen (Some (kind.Test o)) every some opposite tested others = tested o
chosen None every some opposite tested others = others

-- decided where the first doesn't hold, else by the others; a fault is one where nothing was
-- decided before it
abbrev pub and_also : Verdict → Verdict → Verdict
and_also v others = do
  b ← v
  if b then others else Ok false

-- decided where the first holds
abbrev pub or_else : Verdict → Verdict → Verdict
or_else v others = do
  b ← v
  if b then Ok true else others

abbrev pub negated : Verdict → Verdict
negated v = do
  b ← v
  Ok (not b)

abbrev mutual
  -- a rule, from its object
  pub holds : Data → Data → Data → Verdict
  holds (dict ms) x c = decided (variable (value_at (codes "Variable") ms)) ms x c
  holds d x c = Ok false

  -- by the first member that decides
  pub decided : List ℕ → Pairs → Data → Data → Verdict
  decided p no_members x c = Ok false
  decided p (member k d ms) x c =
      chosen (kind_of k) (each d x c) (any d x c) (negated (holds d x c)) (λ o. test o p d x c)
      (decided p ms x c)

  -- And: each rule of a list
  pub each : Data → Data → Data → Verdict
  each (list rs) x c = each_holds rs x c
  each d x c = Ok false

  pub each_holds : Chain → Data → Data → Verdict
  each_holds no_items x c = Ok true
  each_holds (item r rs) x c = and_also (holds r x c) (each_holds rs x c)

  -- Or: some rule of a list
  pub any : Data → Data → Data → Verdict
  any (list rs) x c = any_holds rs x c
  any d x c = Ok false

  pub any_holds : Chain → Data → Data → Verdict
  any_holds no_items x c = Ok false
  any_holds (item r rs) x c = or_else (holds r x c) (any_holds rs x c)
