-- What was found under plans as lines of JSON: one for each rule, then one for each plan.
use Rattle.std.specs.Prelude.{ℕ, zero, suc, ◌+◌, List, [], ◌∷◌, ◌++◌, Bool, true, false, Option, Some, None, slice_get, codes}
use Rattle.std.specs.Fmt.{decimal}
use Rattle.asl_json_data.specs.Compact.{compact, quoted}
use Rattle.asl_json_data.specs.Data.{Data}
use Rattle.asl_json.specs.View.{data_of}
use Rattle.asl_error_plans.specs.declared.injected.InjectedError.{InjectedError}
use Rattle.asl_error_plans.specs.declared.outcomes.PlanOutcomes.{PlanOutcomes}
use Rattle.asl_explore.specs.declared.found.Found.{Found}
use Rattle.asl_run_input.specs.StepsFile.{steps_file}
use Rattle.asl_run_state.specs.declared.outcome.Outcome.{Outcome}
use Rattle.asl_run_state.specs.declared.outcome.Outcome.TheVariants.{Running, Succeeded, Failed, TimedOut}
use Rattle.asl_explore_errors.specs.Rules.{first_refusal, verdict_of, verdict_word}
use Rattle.asl_explore_errors.specs.declared.tried.ErrorsFound.{ErrorsFound}
use Rattle.asl_explore_errors.specs.declared.tried.Witnesses.{Witnesses}

-- ---- lists and members

-- a comma before each item but the first
abbrev pub comma_at : ℕ → List ℕ
comma_at zero = []
comma_at (suc n) = codes ","

-- items, of which the first has this number
abbrev pub items_from : {X : Type 0} → (X → List ℕ) → ℕ → List X → List ℕ
items_from f n [] = []
items_from f n (x ∷ xs) = comma_at n ++ (f x ++ items_from f (n + 1) xs)

abbrev pub bool_word : Bool → List ℕ
bool_word true = codes "true"
bool_word false = codes "false"

-- a member behind others, if it is there
abbrev pub text_member : List ℕ → Option (List ℕ) → List ℕ
text_member name None = []
text_member name (Some t) = 44 ∷ (quoted name ++ (58 ∷ quoted t))

-- the same of a value, and of whether something is so
unfoldable pub value_member : List ℕ → Data → List ℕ
value_member name d = 44 ∷ (quoted name ++ (58 ∷ compact d))

unfoldable pub flag_member : List ℕ → Bool → List ℕ
flag_member name b = 44 ∷ (quoted name ++ (58 ∷ bool_word b))

-- the name of a list, and its beginning
unfoldable pub list_head : List ℕ → List ℕ
list_head name = 44 ∷ (quoted name ++ codes ":[")

-- ---- a plan

-- the state and the number of the invocation
unfoldable pub invocation_members : InjectedError → List ℕ
invocation_members e = codes "\"state\":" ++ (quoted e.state ++ (codes ",\"invocation\":" ++ (decimal e.number ++ 44 ∷ [])))

-- the error, and whether later invocations end in it, too
unfoldable pub error_members : InjectedError → List ℕ
error_members e = codes "\"error\":" ++ (quoted e.error ++ flag_member (codes "always") e.for_good)

unfoldable pub error_object : InjectedError → List ℕ
error_object e = 123 ∷ (invocation_members e ++ (error_members e ++ 125 ∷ []))

unfoldable pub status_head : List ℕ → List ℕ
status_head status = codes "{\"status\":" ++ quoted status

unfoldable pub success_object : Data → List ℕ
success_object d = status_head (codes "SUCCEEDED") ++ (value_member (codes "output") d ++ 125 ∷ [])

unfoldable pub failure_object : Option (List ℕ) → Option (List ℕ) → List ℕ
failure_object error cause =
    status_head (codes "FAILED") ++ (text_member (codes "error") error ++ (text_member (codes "cause") cause ++ 125 ∷ []))

-- how an execution ended
abbrev pub outcome_object : Outcome → List ℕ
outcome_object Running = codes "{\"status\":\"RUNNING\"}"
outcome_object (Succeeded x) = success_object (data_of x)
outcome_object (Failed e) = failure_object e.error e.cause
outcome_object TimedOut = codes "{\"status\":\"TIMED_OUT\",\"error\":\"States.Timeout\"}"

abbrev pub found_object : Found → List ℕ
found_object f = outcome_object f.outcome

abbrev pub ends_of : Option Witnesses → List Found
ends_of None = []
ends_of (Some w) = w.list.items

-- the numbers, from 1, of the rules against which an order ends, of which the first has this one from 0
abbrev pub numbers_from : ℕ → List (Option Found) → List ℕ
numbers_from n [] = []
numbers_from n (None ∷ os) = numbers_from (n + 1) os
numbers_from n (Some f ∷ os) = (n + 1) ∷ numbers_from (n + 1) os

abbrev pub broken_in : Option Witnesses → List ℕ
broken_in None = []
broken_in (Some w) = numbers_from 0 w.refused.items

-- its errors
unfoldable pub plan_member : List InjectedError → List ℕ
plan_member es = codes "\"plan\":[" ++ (items_from error_object 0 es ++ 93 ∷ [])

-- its outcomes
unfoldable pub outcomes_member : List Found → List ℕ
outcomes_member fs = list_head (codes "outcomes") ++ (items_from found_object 0 fs ++ 93 ∷ [])

-- whether an order never ends, and whether all orders were tried
unfoldable pub search_members : PlanOutcomes → List ℕ
search_members p = flag_member (codes "endless") p.endless ++ flag_member (codes "complete") p.complete

-- the rules against which an order ends
unfoldable pub broken_member : List ℕ → List ℕ
broken_member ns = list_head (codes "broken") ++ (items_from decimal 0 ns ++ 93 ∷ [])

unfoldable pub plan_object : PlanOutcomes → Option Witnesses → List ℕ
plan_object p w =
    123 ∷ (plan_member p.plan.items ++ (outcomes_member (ends_of w) ++ (search_members p ++ (broken_member (broken_in w) ++ codes "}\n"))))

-- plans, of which the first has this number
abbrev pub plan_lines : List Witnesses → ℕ → List PlanOutcomes → List ℕ
plan_lines ws n [] = []
plan_lines ws n (p ∷ ps) = plan_object p (slice_get ws n) ++ plan_lines ws (n + 1) ps

-- ---- a rule

-- the steps to an end, as a steps file
abbrev pub steps_member : Option Found → List ℕ
steps_member None = []
steps_member (Some f) = text_member (codes "steps") (Some (steps_file f.steps.items))

-- its number from 1, what is known of it, the rule, and an order that ends against it
unfoldable pub rule_object : ErrorsFound → ℕ → List ℕ → List ℕ
rule_object x n rule =
    codes "{\"rule\":" ++ (decimal (n + 1) ++ (text_member (codes "verdict") (Some (verdict_word (verdict_of n x)))
    ++ (text_member (codes "text") (Some rule) ++ (steps_member (first_refusal n x.found.items) ++ codes "}\n"))))

-- rules, of which the first has this number
abbrev pub rule_lines : ErrorsFound → ℕ → List (List ℕ) → List ℕ
rule_lines x n [] = []
rule_lines x n (r ∷ rs) = rule_object x n r ++ rule_lines x (n + 1) rs

-- ---- all

abbrev pub json_lines : List (List ℕ) → ErrorsFound → List ℕ
json_lines rules x = rule_lines x 0 rules ++ plan_lines x.found.items 0 x.plans.items
