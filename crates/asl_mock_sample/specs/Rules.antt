-- What the rules of a Choice want of its input, so that the first one holds. (Amazon States Language, "Choice State".)
use Rattle.std.specs.Prelude.{ℕ, Bool, true, ◌||◌, nat_eq, List, if◌then◌else◌, codes}
use Rattle.std.specs.List.{starts_with, ends_with}
use Rattle.asl_json_data.specs.Data.{Data, boolean, text, list, dict, Chain, no_items, item, Pairs, no_members, member}
use Rattle.asl_json.specs.Same.{bytes_eq}
use Rattle.asl_mock_sample.specs.Merging.{anything, both}
use Rattle.asl_mock_sample.specs.Templates.{one, value_wants}

abbrev pub moment : Data
moment = text (codes "2024-01-01T00:00:00Z")

-- what a comparison with this value holds for: a value of the type that is asked for, or the value itself
abbrev pub compared : List ℕ → Data → Data
compared k d =
    if bytes_eq k (codes "IsNumeric") then one
    else if bytes_eq k (codes "IsBoolean") then boolean true
    else if bytes_eq k (codes "IsTimestamp") then moment
    else if starts_with nat_eq k (codes "Is") then anything
    else if ends_with nat_eq k (codes "Path")
    then (if starts_with nat_eq k (codes "Numeric") then one else anything)
    else d

-- is no comparison
abbrev pub is_other : List ℕ → Bool
is_other k =
    bytes_eq k (codes "Variable") || bytes_eq k (codes "Next") || bytes_eq k (codes "Comment")

-- what the comparison of a rule holds for
abbrev pub held : Pairs → Data
held no_members = anything
held (member k d ms) = if is_other k then held ms else compared k d

-- of a member of a rule, given what it wants as a rule and as a list of rules
abbrev pub rule_part : List ℕ → Data → Data → Data → Data → Data
rule_part k d leaf rule rules =
    if bytes_eq k (codes "Variable") then value_wants (codes "$") d leaf
    else if bytes_eq k (codes "Not") then rule
    else if bytes_eq k (codes "And") then rules
    else if bytes_eq k (codes "Or") then rules
    else if ends_with nat_eq k (codes "Path") then value_wants (codes "$") d leaf
    else anything

abbrev mutual
  pub rule_wants : Data → Data
  rule_wants (dict ms) = rule_members (held ms) anything ms
  rule_wants d = anything

  pub rule_members : Data → Data → Pairs → Data
  rule_members leaf done no_members = done
  rule_members leaf done (member k d ms) =
      rule_members leaf (both done (rule_part k d leaf (rule_wants d) (rules_wants d))) ms

  pub rules_wants : Data → Data
  rules_wants (list ds) = rule_items anything ds
  rules_wants d = anything

  pub rule_items : Data → Chain → Data
  rule_items done no_items = done
  rule_items done (item d ds) = rule_items (both done (rule_wants d)) ds
