-- What is told of plans.
use Rattle.std.specs.Prelude.{ℕ, ◌+◌, List, [], ◌∷◌, ◌++◌, Bool, true, false, not, ◌&&◌, if◌then◌else◌, length, codes, nat_eq, string_bytes}
use Rattle.std.specs.Fmt.{decimal}
use Rattle.std.specs.List.{count_by, flat_map, list_any, starts_with}
use Rattle.asl_json_data.specs.Compact.{quoted}
use Rattle.asl_error_plans.specs.declared.injected.InjectedError.{InjectedError}
use Rattle.asl_error_plans.specs.declared.outcomes.PlanOutcomes.{PlanOutcomes}
use Rattle.asl_error_plans.specs.Grouping.{all_outcomes, gives}

unfoldable pub name_word : List ℕ → List ℕ
name_word n = 32 ∷ quoted n

abbrev pub span_word : Bool → List ℕ
span_word true = codes " always"
span_word false = codes " once"

-- the state, the number of the invocation, the error, and whether later invocations end in it, too
unfoldable pub error_words : InjectedError → List ℕ
error_words e = name_word e.state ++ (32 ∷ (decimal e.number ++ (name_word e.error ++ span_word e.for_good)))

abbrev pub words_of : List InjectedError → List ℕ
words_of [] = codes " no errors"
words_of (e ∷ es) = flat_map error_words (e ∷ es)

unfoldable pub plan_line : List InjectedError → List ℕ
plan_line p = codes "plan" ++ (words_of p ++ 10 ∷ [])

abbrev pub line_if : Bool → PlanOutcomes → List ℕ
line_if b p = if b then plan_line p.plan.items else []

abbrev pub is_endless : PlanOutcomes → Bool
is_endless p = p.endless

abbrev pub is_cut : PlanOutcomes → Bool
is_cut p = not p.complete

unfoldable pub title_line : List ℕ → List ℕ
title_line t = 10 ∷ (t ++ 10 ∷ [])

-- the plans under which an order never ends, if there are any
abbrev pub endless_section : List PlanOutcomes → List ℕ
endless_section ps =
    if list_any is_endless ps
    then title_line (codes "endless") ++ flat_map (λ (p : PlanOutcomes). line_if (is_endless p) p) ps
    else []

-- those of which the search was cut, if there are any
abbrev pub cut_section : List PlanOutcomes → List ℕ
cut_section ps =
    if list_any is_cut ps
    then title_line (codes "search cut") ++ flat_map (λ (p : PlanOutcomes). line_if (is_cut p) p) ps
    else []

unfoldable pub outcome_head : ℕ → List ℕ → List ℕ
outcome_head n o = codes "\noutcome " ++ (decimal n ++ (32 ∷ (o ++ 10 ∷ [])))

abbrev pub is_without_errors : List InjectedError → Bool
is_without_errors [] = true
is_without_errors (e ∷ es) = false

-- an outcome comes where nothing is put in
abbrev pub comes_alone : List ℕ → PlanOutcomes → Bool
comes_alone o p = is_without_errors p.plan.items && gives o p

abbrev pub new_word : Bool → List ℕ
new_word true = codes " new"
new_word false = []

unfoldable pub count_line : ℕ → Bool → List ℕ
count_line n new = codes "plans " ++ (decimal n ++ (new_word new ++ 10 ∷ []))

-- how many plans give an outcome, and whether it comes only where something is put in
abbrev pub plan_count : List PlanOutcomes → List ℕ → List ℕ
plan_count ps o = count_line (count_by (gives o) ps) (not (list_any (comes_alone o) ps))

-- an outcome, and the plans that give it
abbrev pub outcome_section : List PlanOutcomes → ℕ → List ℕ → List ℕ
outcome_section ps n o =
    outcome_head n o ++ (plan_count ps o ++ flat_map (λ (p : PlanOutcomes). line_if (gives o p) p) ps)

-- outcomes, numbered from n
abbrev pub outcomes_text : List PlanOutcomes → ℕ → List (List ℕ) → List ℕ
outcomes_text ps n [] = []
outcomes_text ps n (o ∷ os) = outcome_section ps n o ++ outcomes_text ps (n + 1) os

unfoldable pub head_line : ℕ → List ℕ
head_line n = codes "plans " ++ (decimal n ++ 10 ∷ [])

abbrev pub plans_text : List PlanOutcomes → List ℕ
plans_text ps =
    head_line (length ps) ++ (outcomes_text ps 1 (all_outcomes ps) ++ (endless_section ps ++ cut_section ps))

-- nothing was left out, and no order is endless
abbrev pub are_whole : List PlanOutcomes → Bool
are_whole ps = not (list_any is_endless ps) && not (list_any is_cut ps)

-- an outcome is a status with the output or the error
abbrev pub is_success : List ℕ → Bool
is_success o = starts_with nat_eq o (codes "SUCCEEDED ")

abbrev pub has_failure : PlanOutcomes → Bool
has_failure p = list_any (λ u. not (is_success (string_bytes u))) p.outcomes.items

-- the execution may fail although nothing is put in
abbrev pub fails_alone : PlanOutcomes → Bool
fails_alone p = is_without_errors p.plan.items && has_failure p

-- and it never does
abbrev pub are_good : List PlanOutcomes → Bool
are_good ps = are_whole ps && not (list_any fails_alone ps)
