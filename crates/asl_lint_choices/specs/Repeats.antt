-- Rules that ask what an earlier rule of the same Choice asks.
use Rattle.std.specs.Prelude.{ℕ, ◌+◌, nat_lt, List, [], ◌∷◌, ◌++◌, Option, Some, None, if◌then◌else◌}
use Rattle.asl_json_data.specs.Data.{Data}
use Rattle.asl_json_data.specs.Distinct.{Members}
use Rattle.asl_lint_choices.specs.Conditions.{all_conditions, is_same}
use Rattle.asl_lint_choices.specs.declared.repeats.Repeated.{Repeated}

-- the number of the first of these conditions, counted from n, that is this one
abbrev pub first_same : Members → ℕ → List Members → Option ℕ
first_same c n [] = None
first_same c n (d ∷ ds) = if is_same d c then Some n else first_same c (n + 1) ds

-- the rule of this number, where the first with its condition is an earlier one
abbrev pub repeated_by : ℕ → Option ℕ → List Repeated
repeated_by n (Some i) = if nat_lt i n then record { rule = n; earlier = i } ∷ [] else []
repeated_by n None = []

-- of the rules with these conditions, counted from n, among all
abbrev pub repeated_from : List Members → ℕ → List Members → List Repeated
repeated_from all n [] = []
repeated_from all n (c ∷ cs) = repeated_by n (first_same c 0 all) ++ repeated_from all (n + 1) cs

-- the rules of a Choice
unfoldable pub repeated_rules : List Data → List Repeated
repeated_rules rules = repeated_from (all_conditions rules) 0 (all_conditions rules)
