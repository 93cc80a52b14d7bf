-- Ands of a rule that never hold, at any depth. (Amazon States Language, "Choice State".)
use Rattle.std.specs.Prelude.{ℕ, ◌+◌, List, [], ◌∷◌, ◌++◌, Bool, true, false, Option, Some, None, codes, if◌then◌else◌}
use Rattle.asl_json_data.specs.Data.{Data, list, dict, Chain, no_items, item, Pairs, no_members, member}
use Rattle.asl_json_data.specs.Distinct.{Members}
use Rattle.asl_json.specs.View.{unchained}
use Rattle.asl_json.specs.Access.{items_in}
use Rattle.asl_json.specs.Same.{bytes_eq}
use Rattle.asl_lint_choices.specs.Conditions.{condition}
use Rattle.asl_lint_choices.specs.Contradictions.{first_contradiction}
use Rattle.asl_lint_choices.specs.declared.contradictions.Contradiction.{Contradiction}

-- where an And stands in a rule, and two of its rules that never hold both
abbrev pub Told : Type 0
Told = List ℕ × Contradiction

abbrev pub told_at : List ℕ → Option Contradiction → List Told
told_at place (Some t) = (place, t) ∷ []
told_at place None = []

-- the And of these rules
abbrev pub own_and : List ℕ → List Data → List Told
own_and place rules = told_at place (first_contradiction rules)

-- the items of a list; any other value has none
abbrev pub item_list : Data → List Data
item_list d = unchained (items_in d)

abbrev pub is_one : Members → Bool
is_one (m ∷ []) = true
is_one ms = false

-- one member alone says when a rule holds
abbrev pub has_one_part : Data → Bool
has_one_part rule = is_one (condition rule)

-- of the member with this key, given the And that it would be, what is in its rules, and what is in its rule
abbrev pub by_key : List ℕ → List Told → List Told → List Told → List Told
by_key k own inner opposite =
    if bytes_eq k (codes "And") then own ++ inner
    else if bytes_eq k (codes "Or") then inner
    else if bytes_eq k (codes "Not") then opposite
    else []

-- Those of what stands at a place: the numbers of the rules around it, the outermost first. Rules are counted from 0, and the rule of a
-- Not has number 0.
abbrev mutual
  -- of a rule
  pub in_rule : List ℕ → Data → List Told
  in_rule place (dict ms) = if has_one_part (dict ms) then in_members place ms else []
  in_rule place d = []

  pub in_members : List ℕ → Pairs → List Told
  in_members place no_members = []
  in_members place (member k d ms) =
      by_key k (own_and place (item_list d)) (in_rules place d) (in_rule (place ++ 0 ∷ []) d)
      ++ in_members place ms

  -- of the rules of a list
  pub in_rules : List ℕ → Data → List Told
  in_rules place (list ds) = in_items place 0 ds
  in_rules place d = []

  pub in_items : List ℕ → ℕ → Chain → List Told
  in_items place n no_items = []
  in_items place n (item d ds) = in_rule (place ++ n ∷ []) d ++ in_items place (n + 1) ds

-- of a rule that stands in no other
abbrev pub impossible_ands : Data → List Told
impossible_ands rule = in_rule [] rule
