-- What is told of rules that are judged under each plan.
use Rattle.std.specs.Prelude.{ℕ, zero, suc, ◌+◌, List, [], ◌∷◌, ◌++◌, Bool, true, false, not, ◌&&◌, Option, Some, None, is_some, option_and_then, slice_get, if◌then◌else◌, codes}
use Rattle.std.specs.Fmt.{decimal}
use Rattle.std.specs.List.{count_by, list_any}
use Rattle.asl_error_plans.specs.Telling.{head_line, is_cut, line_if}
use Rattle.asl_error_plans.specs.declared.outcomes.PlanOutcomes.{PlanOutcomes}
use Rattle.asl_explore.specs.declared.found.Found.{Found}
use Rattle.asl_run_input.specs.StepsFile.{steps_file}
use Rattle.asl_run_input.specs.declared.step_at.StepAt.{StepAt}
use Rattle.asl_explore_errors.specs.declared.rules.Verdict.{Verdict}
use Rattle.asl_explore_errors.specs.declared.rules.Verdict.TheVariants.{Broken, Holds, Unknown}
use Rattle.asl_explore_errors.specs.declared.tried.ErrorsFound.{ErrorsFound}
use Rattle.asl_explore_errors.specs.declared.tried.Witnesses.{Witnesses}

-- ---- what was met

abbrev pub joined : {X : Type 0} → Option (Option X) → Option X
joined (Some o) = o
joined None = None

-- an end under a plan against the rule of a number, from 0
abbrev pub refusal_in : ℕ → Witnesses → Option Found
refusal_in n w = joined (slice_get w.refused.items n)

abbrev pub breaks : ℕ → Witnesses → Bool
breaks n w = is_some (refusal_in n w)

-- under the plan of a number, from 0, one was met
abbrev pub breaks_at : ℕ → Option Witnesses → Bool
breaks_at n (Some w) = breaks n w
breaks_at n None = false

-- the first of all plans
abbrev pub first_refusal : ℕ → List Witnesses → Option Found
first_refusal n [] = None
first_refusal n (w ∷ ws) = if breaks n w then refusal_in n w else first_refusal n ws

-- where none was met, the rule holds if every order was tried
abbrev pub verdict_of : ℕ → ErrorsFound → Verdict
verdict_of n x =
    if list_any (breaks n) x.found.items then Broken
    else if list_any is_cut x.plans.items then Unknown else Holds

-- ---- as it is told

abbrev pub verdict_word : Verdict → List ℕ
verdict_word Broken = codes "broken"
verdict_word Holds = codes "holds"
verdict_word Unknown = codes "unknown"

-- between spaces
unfoldable pub verdict_between : Verdict → List ℕ
verdict_between v = 32 ∷ (verdict_word v ++ 32 ∷ [])

-- the number, from 1, what is known, and the rule
unfoldable pub rule_head : ℕ → Verdict → List ℕ → List ℕ
rule_head n v rule = codes "rule " ++ (decimal (n + 1) ++ (verdict_between v ++ (rule ++ 10 ∷ [])))

-- each of these plans, the first of which has this number, under which one was met
abbrev pub broken_from : ℕ → List Witnesses → ℕ → List PlanOutcomes → List ℕ
broken_from n ws k [] = []
broken_from n ws k (p ∷ ps) = line_if (breaks_at n (slice_get ws k)) p ++ broken_from n ws (k + 1) ps

abbrev pub order_of : Option Found → List ℕ
order_of (Some f) = codes "steps\n" ++ steps_file f.steps.items
order_of None = []

-- how many plans there are of these, which, and an order under the first of them
abbrev pub broken_section : ℕ → ErrorsFound → List ℕ
broken_section n x =
    head_line (count_by (breaks n) x.found.items)
    ++ (broken_from n x.found.items 0 x.plans.items ++ order_of (first_refusal n x.found.items))

abbrev pub section_by : Verdict → ℕ → ErrorsFound → List ℕ
section_by Broken n x = broken_section n x
section_by Holds n x = []
section_by Unknown n x = []

abbrev pub rule_section : ErrorsFound → ℕ → List ℕ → List ℕ
rule_section x n rule = rule_head n (verdict_of n x) rule ++ (section_by (verdict_of n x) n x ++ 10 ∷ [])

-- the rules, of which the first has this number
abbrev pub rules_from : ErrorsFound → ℕ → List (List ℕ) → List ℕ
rules_from x n [] = []
rules_from x n (r ∷ rs) = rule_section x n r ++ rules_from x (n + 1) rs

-- no order ends against one of so many rules
abbrev pub are_kept : ℕ → ErrorsFound → Bool
are_kept zero x = true
are_kept (suc n) x = are_kept n x && not (list_any (breaks n) x.found.items)
