-- The condition of a rule in short form, as `$.total > 1000 and $.kind = "a"`.
use Rattle.std.specs.Prelude.{ℕ, zero, suc, Bool, true, false, not, ◌&&◌, ◌||◌, List, [], ◌∷◌, ◌++◌, Option, Some, None, if◌then◌else◌, codes}
use Rattle.asl_json_data.specs.Data.{Data, null, boolean, number, text, list, dict, Chain, no_items, item, Pairs, no_members, member}
use Rattle.asl_json_data.specs.Compact.{compact}
use Rattle.asl_json.specs.Access.{items_in}
use Rattle.asl_json.specs.Same.{bytes_eq}
use Rattle.asl_graph.specs.Members.{text_in, text_at}

-- ---- tests, by their names (ASL, "Data-test expression")

-- what stands between a variable and a value; nothing for any other name
unfoldable pub value_sign : List ℕ → Option (List ℕ)
value_sign k =
    if bytes_eq k (codes "StringEquals") || (bytes_eq k (codes "NumericEquals")
    || (bytes_eq k (codes "TimestampEquals") || bytes_eq k (codes "BooleanEquals"))) then Some (codes " = ")
    else if bytes_eq k (codes "StringLessThan") || (bytes_eq k (codes "NumericLessThan")
    || bytes_eq k (codes "TimestampLessThan")) then Some (codes " < ")
    else if bytes_eq k (codes "StringGreaterThan") || (bytes_eq k (codes "NumericGreaterThan")
    || bytes_eq k (codes "TimestampGreaterThan")) then Some (codes " > ")
    else if bytes_eq k (codes "StringLessThanEquals") || (bytes_eq k (codes "NumericLessThanEquals")
    || bytes_eq k (codes "TimestampLessThanEquals")) then Some (codes " <= ")
    else if bytes_eq k (codes "StringGreaterThanEquals") || (bytes_eq k (codes "NumericGreaterThanEquals")
    || bytes_eq k (codes "TimestampGreaterThanEquals")) then Some (codes " >= ")
    else if bytes_eq k (codes "StringMatches") then Some (codes " matches ")
    else None

-- the same between a variable and a path
unfoldable pub path_sign : List ℕ → Option (List ℕ)
path_sign k =
    if bytes_eq k (codes "StringEqualsPath") || (bytes_eq k (codes "NumericEqualsPath")
    || (bytes_eq k (codes "TimestampEqualsPath") || bytes_eq k (codes "BooleanEqualsPath"))) then Some (codes " = ")
    else if bytes_eq k (codes "StringLessThanPath") || (bytes_eq k (codes "NumericLessThanPath")
    || bytes_eq k (codes "TimestampLessThanPath")) then Some (codes " < ")
    else if bytes_eq k (codes "StringGreaterThanPath") || (bytes_eq k (codes "NumericGreaterThanPath")
    || bytes_eq k (codes "TimestampGreaterThanPath")) then Some (codes " > ")
    else if bytes_eq k (codes "StringLessThanEqualsPath") || (bytes_eq k (codes "NumericLessThanEqualsPath")
    || bytes_eq k (codes "TimestampLessThanEqualsPath")) then Some (codes " <= ")
    else if bytes_eq k (codes "StringGreaterThanEqualsPath") || (bytes_eq k (codes "NumericGreaterThanEqualsPath")
    || bytes_eq k (codes "TimestampGreaterThanEqualsPath")) then Some (codes " >= ")
    else None

-- what a variable is asked to be; nothing for any other name
unfoldable pub property : List ℕ → Option (List ℕ)
property k =
    if bytes_eq k (codes "IsNull") then Some (codes "null")
    else if bytes_eq k (codes "IsPresent") then Some (codes "present")
    else if bytes_eq k (codes "IsNumeric") then Some (codes "numeric")
    else if bytes_eq k (codes "IsString") then Some (codes "string")
    else if bytes_eq k (codes "IsBoolean") then Some (codes "boolean")
    else if bytes_eq k (codes "IsTimestamp") then Some (codes "timestamp")
    else None

-- ---- a test of a variable, v

-- that it stands so to this; nothing where there is no sign
abbrev pub compared : List ℕ → Option (List ℕ) → List ℕ → List ℕ
compared v None t = []
compared v (Some sign) t = v ++ (sign ++ t)

-- whether it is to be so, by the value of the test
abbrev pub is_word : Data → List ℕ
is_word (boolean false) = codes " is not "
is_word _ = codes " is "

abbrev pub asked : List ℕ → Data → Option (List ℕ) → List ℕ
asked v d None = []
asked v d (Some word) = v ++ (is_word d ++ word)

-- the test of this name: a value is compact JSON, and a path stands as it is
abbrev pub test : List ℕ → List ℕ → Data → List ℕ
test v k d =
    compared v (value_sign k) (compact d)
    ++ (compared v (path_sign k) (text_in (Some d)) ++ asked v d (property k))

-- ---- rules in rules (ASL, "Choice State", "Boolean expression")

abbrev pub has_many : Chain → Bool
has_many (item d (item e ds)) = true
has_many _ = false

abbrev pub is_many : Data → Bool
is_many d = has_many (items_in d)

-- what stands before the rule with this number in a list of rules
abbrev pub between : List ℕ → ℕ → List ℕ
between sign zero = []
between sign (suc i) = sign

abbrev pub enclosed : Bool → List ℕ → List ℕ
enclosed true t = 40 ∷ (t ++ 41 ∷ [])
enclosed false t = t

-- of the member with this key of a rule; beside says whether the rule stands beside others of one `And`,
-- where an `Or` of more than one stands in parentheses. The three texts are those of the rules in d, as
-- those of an `And`, of an `Or`, and as that of a `Not`
abbrev pub rule_part : Bool → List ℕ → List ℕ → Data → List ℕ → List ℕ → List ℕ → List ℕ
rule_part beside v k d all any one =
    if bytes_eq k (codes "And") then all
    else if bytes_eq k (codes "Or") then enclosed (beside && is_many d) any
    else if bytes_eq k (codes "Not") then codes "not (" ++ (one ++ 41 ∷ [])
    else test v k d

abbrev mutual
  pub condition : Bool → Data → List ℕ
  condition beside null = []
  condition beside (boolean b) = []
  condition beside (number s) = []
  condition beside (text s) = []
  condition beside (list ds) = []
  condition beside (dict ms) = in_rule beside (text_at (codes "Variable") (dict ms)) ms

  pub in_rule : Bool → List ℕ → Pairs → List ℕ
  in_rule beside v no_members = []
  in_rule beside v (member k d ms) =
      rule_part beside v k d (joined (beside || is_many d) (codes " and ") d)
      (joined (beside && not (is_many d)) (codes " or ") d) (condition false d)
      ++ in_rule beside v ms

  -- of the rules of a list
  pub joined : Bool → List ℕ → Data → List ℕ
  joined beside sign null = []
  joined beside sign (boolean b) = []
  joined beside sign (number s) = []
  joined beside sign (text s) = []
  joined beside sign (list ds) = in_rules beside sign 0 ds
  joined beside sign (dict ms) = []

  pub in_rules : Bool → List ℕ → ℕ → Chain → List ℕ
  in_rules beside sign i no_items = []
  in_rules beside sign i (item d ds) =
      between sign i ++ (condition beside d ++ in_rules beside sign (suc i) ds)
