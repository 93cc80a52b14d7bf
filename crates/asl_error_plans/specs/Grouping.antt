-- The outcomes of plans, each once.
use Rattle.std.specs.Prelude.{ℕ, zero, suc, Option, None, option_and_then, option_map, slice_get, List, [], ◌∷◌, ◌++◌, Bool, if◌then◌else◌, String, string_bytes}
use Rattle.std.specs.List.{fold, list_any, position}
use Rattle.asl_json.specs.Same.{bytes_eq}
use Rattle.asl_error_plans.specs.declared.outcomes.PlanOutcomes.{PlanOutcomes}

-- a text behind these, unless it is among them
abbrev pub with_new : List (List ℕ) → List ℕ → List (List ℕ)
with_new ts t = if list_any (λ (u : List ℕ). bytes_eq u t) ts then ts else ts ++ t ∷ []

abbrev pub with_outcome : {X : Type 0} → List (List ℕ) → String X → List (List ℕ)
with_outcome ts o = with_new ts (string_bytes o)

abbrev pub with_outcomes : List (List ℕ) → PlanOutcomes → List (List ℕ)
with_outcomes ts p = fold with_outcome ts p.outcomes.items

-- in the order in which they come first
abbrev pub all_outcomes : List PlanOutcomes → List (List ℕ)
all_outcomes ps = fold with_outcomes [] ps

abbrev pub is_text : {X : Type 0} → List ℕ → String X → Bool
is_text o u = bytes_eq (string_bytes u) o

-- an outcome is one of a plan
abbrev pub gives : List ℕ → PlanOutcomes → Bool
gives o p = list_any (is_text o) p.outcomes.items

-- the place of the first plan that gives an outcome, and that of the outcome there
abbrev pub first_place : List ℕ → List PlanOutcomes → Option (ℕ × ℕ)
first_place o ps = option_and_then (λ i. option_and_then (λ (p : PlanOutcomes).
    option_map (λ j. (i, j)) (position (is_text o) p.outcomes.items)) (slice_get ps i)) (position (gives o) ps)

-- the text of a number, from 1
abbrev pub outcome_of : ℕ → List (List ℕ) → Option (List ℕ)
outcome_of zero ts = None
outcome_of (suc n) ts = slice_get ts n

-- where the outcome of a number is given first
abbrev pub place_of : ℕ → List PlanOutcomes → Option (ℕ × ℕ)
place_of n ps = option_and_then (λ o. first_place o ps) (outcome_of n (all_outcomes ps))
