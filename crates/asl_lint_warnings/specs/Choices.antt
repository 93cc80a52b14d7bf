-- What the rules of a Choice are warned of: that one asks what an earlier one asks, and that an And in
-- one never holds. (Amazon States Language, "Choice State".)
use Rattle.std.specs.Prelude.{ℕ, ◌+◌, List, [], ◌∷◌, ◌++◌, Bool, ◌||◌, Option, Some, None, codes, map, if◌then◌else◌}
use Rattle.std.specs.Fmt.{decimal}
use Rattle.std.specs.List.{slice_get}
use Rattle.asl_json_data.specs.Data.{Data, Pairs, no_members, member}
use Rattle.asl_json.specs.Access.{members_in}
use Rattle.asl_json.specs.Same.{bytes_eq}
use Rattle.asl_def_schema.specs.declared.fault.Step.{Step}
use Rattle.asl_def_schema.specs.Claims.{step}
use Rattle.asl_lint_choices.specs.Repeats.{repeated_rules}
use Rattle.asl_lint_choices.specs.Ands.{Told, item_list, impossible_ands}
use Rattle.asl_lint_choices.specs.declared.repeats.Repeated.{Repeated}
use Rattle.asl_lint_warnings.specs.declared.warning.WarningKind.TheVariants as kind
use Rattle.asl_lint_warnings.specs.Kinds.{Noted}

-- ---- the place of an And

-- a rule with such a member is made of other rules
abbrev pub is_connective : List ℕ → Bool
is_connective k = bytes_eq k (codes "And") || bytes_eq k (codes "Or") || bytes_eq k (codes "Not")

-- a member and its number
abbrev pub Part : Type 0
Part = ℕ × (List ℕ × Data)

-- the first such member of a rule, counted from i
abbrev pub part_from : ℕ → Pairs → Option Part
part_from i no_members = None
part_from i (member k d ms) = if is_connective k then Some (i, (k, d)) else part_from (i + 1) ms

abbrev pub part_of : Data → Option Part
part_of rule = part_from 0 (members_in rule)

-- the steps to such a member of the rule at a place
abbrev pub part_place : List Step → Option Part → List Step
part_place place (Some p) = step p.0 p.1.0 ∷ place
part_place place None = place

-- of the rule with this number in a list, given what is said of a rule at a place
abbrev pub in_item : (List Step → Data → List Step) → List Step → ℕ → Option Data → List Step
in_item f place n (Some d) = f (step n (decimal n) ∷ place) d
in_item f place n None = step n (decimal n) ∷ place

-- of the rule with this number in such a member
abbrev pub in_part : (List Step → Data → List Step) → List Step → ℕ → Option Part → List Step
in_part f place n (Some p) =
    if bytes_eq p.1.0 (codes "Not") then f (step p.0 p.1.0 ∷ place) p.1.1
    else in_item f (step p.0 p.1.0 ∷ place) n (slice_get (item_list p.1.1) n)
in_part f place n None = place

-- the steps to the And that these numbers lead to from the rule at a place
abbrev pub and_place : List Step → List ℕ → Data → List Step
and_place place [] rule = part_place place (part_of rule)
and_place place (n ∷ ns) rule = in_part (λ p r. and_place p ns r) place n (part_of rule)

-- ---- the rules of a Choice

abbrev pub and_noted : List Step → Data → Told → Noted
and_noted place rule t = (kind.ImpossibleAnd, and_place place t.0 rule)

-- of a rule at a place
abbrev pub and_warnings : List Step → Data → List Noted
and_warnings place rule = map (and_noted place rule) (impossible_ands rule)

-- of each of these rules, counted from i
abbrev pub all_and_warnings : List Step → ℕ → List Data → List Noted
all_and_warnings place i [] = []
all_and_warnings place i (d ∷ ds) =
    and_warnings (step i (decimal i) ∷ place) d ++ all_and_warnings place (i + 1) ds

abbrev pub repeat_noted : List Step → Repeated → Noted
repeat_noted place r = (kind.RepeatedRule, step r.rule (decimal r.rule) ∷ place)

abbrev pub repeat_warnings : List Step → List Data → List Noted
repeat_warnings place rules = map (repeat_noted place) (repeated_rules rules)

abbrev pub rule_warnings : List Step → List Data → List Noted
rule_warnings place rules = repeat_warnings place rules ++ all_and_warnings place 0 rules
