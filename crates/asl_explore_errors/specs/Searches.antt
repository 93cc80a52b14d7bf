-- What is found under plans of errors.
use Rattle.std.specs.Prelude.{ℕ, ◌≡◌, ◌≤◌, ◌⊎◌, ◌&&◌, Bool, true, false, List, [], ◌∷◌, ◌++◌, ⊤, length, nat_lt, Option, option_map, option_and_then, is_some, map, slice_get, string_bytes}
use Rattle.std.specs.Borrow.{Bor}
use Rattle.std.specs.List.{All, AllPairs, Any, Contains, list_any}
use Rattle.asl_json_data.specs.Data.{Data}
use Rattle.asl_run_state.specs.declared.outcome.Outcome.{Outcome}
use Rattle.asl_run_input.specs.declared.setup.Setup.{Setup}
use Rattle.asl_error_plans.specs.Grouping.{place_of}
use Rattle.asl_error_plans.specs.declared.outcomes.PlanOutcomes.{PlanOutcomes}
use Rattle.asl_explore.specs.declared.calls.Calls.{Calls}
use Rattle.asl_explore.specs.declared.found.Explored.{Explored}
use Rattle.asl_explore.specs.declared.found.Found.{Found}
use Rattle.asl_explore.specs.declared.orders.Orders.{Orders}
use Rattle.asl_explore.specs.Finding.{IsFound}
use Rattle.asl_explore.specs.Judging.{AreJudged}
use Rattle.asl_explore.specs.Reports.{ended_text}
use Rattle.asl_task_errors.specs.Tasks.{Told, task_errors}
use Rattle.asl_explore_errors.specs.declared.points.Point.{Point}
use Rattle.asl_explore_errors.specs.declared.tried.ErrorsFound.{ErrorsFound}
use Rattle.asl_explore_errors.specs.declared.tried.Witnesses.{Witnesses}
use Rattle.asl_explore_errors.specs.Plans.{has_plan, is_same_plan}
use Rattle.asl_explore_errors.specs.Points.{errors_of, longer}
use Rattle.asl_explore_errors.specs.Under.{IsUnder}

-- an outcome, as a status with the output or the error
abbrev pub text_of : Found → List ℕ
text_of f = ended_text f.outcome

-- ---- under one plan

-- what judges accept, by the beginning of an execution, its outcome and how often each state was invoked
abbrev pub Accepting : Type 0 → Type 0
Accepting J = J → Setup → Outcome → List ℕ → Bool

-- what comes of a plan is what a search of these orders may find of the execution under it, so often it invokes each state, if that is counted, and
-- these ends judges don't accept
pub record IsFoundUnder {J : Type 0} (accepts : Accepting J) (js : List J) (o : Orders) (limit : ℕ) (s : Setup)
    (counted : Bool) (p : PlanOutcomes) (w : Witnesses) (cs : List Calls) : Type 0 where
  pub under : Setup
  pub is_under : IsUnder s p.plan.items under
  pub explored : Explored
  pub found : IsFound o counted limit under explored
  pub all : w.list.items ≡ explored.found.items
  pub calls : cs ≡ explored.calls.items
  pub outcomes : map string_bytes p.outcomes.items ≡ map text_of w.list.items
  pub complete : p.complete ≡ explored.complete
  pub endless : p.endless ≡ is_some explored.endless
  pub judged : AreJudged accepts (counted && explored.complete) o under js w.refused.items

-- a plan that was tried, and how often each state is invoked under it in the orders of each outcome
pub record Try : Type 0 where
  pub plan : List Point
  pub calls : List Calls

abbrev pub try_of : List Point → List Calls → Try
try_of plan cs = record { plan = plan; calls = cs }

-- so many errors may be put in, and a plan has fewer: how often states are invoked is counted, and plans with one error more are tried
abbrev pub has_room : ℕ → List Point → Bool
has_room most plan = nat_lt (length plan) most

-- and how often they are is counted where there are judges, too
abbrev pub is_counted : {J : Type 0} → List J → Bool → Bool
is_counted [] room = room
is_counted (j ∷ js) room = true

pub record IsTried {J : Type 0} (accepts : Accepting J) (js : List J) (most : ℕ) (o : Orders) (limit : ℕ) (s : Setup)
    (t : Try) (p : PlanOutcomes) (w : Witnesses) : Type 0 where
  pub few : length t.plan ≤ most
  pub plan : p.plan.items ≡ errors_of t.plan
  pub found : IsFoundUnder accepts js o limit s (is_counted js (has_room most t.plan)) p w t.calls

-- ---- under all plans

-- each of these is
abbrev pub AreTried : {J : Type 0} → Accepting J → List J → ℕ → Orders → ℕ → Setup → List Try → List PlanOutcomes → List Witnesses → Type 0
AreTried accepts js most o limit s [] [] [] = ⊤
AreTried accepts js most o limit s (t ∷ ts) (p ∷ ps) (w ∷ ws) =
    IsTried accepts js most o limit s t p w × AreTried accepts js most o limit s ts ps ws
AreTried accepts js most o limit s ts ps ws = ⊥

abbrev pub is_told : List PlanOutcomes → List Point → Bool
is_told ps plan = list_any (has_plan (errors_of plan)) ps

-- each plan with one error more, at an invocation of a Task that was counted in the orders under the shorter one that end, is told
abbrev pub AreLongerTold : ℕ → List Told → Data → List PlanOutcomes → Try → Type 0
AreLongerTold most tasks m ps t =
    has_room most t.plan ≡ true → All (λ plan. is_told ps plan ≡ true) (longer tasks m t.calls t.plan)

-- a plan is one of these with such an error more
abbrev pub IsLonger : ℕ → List Told → Data → List Try → List Point → Type 0
IsLonger most tasks m ts plan =
    Any (λ (t : Try). (has_room most t.plan ≡ true) × Contains (longer tasks m t.calls t.plan) plan) ts

-- and no other plan is tried: each is the one without errors, or one that was tried before with one error more
abbrev pub AreMade : ℕ → List Told → Data → List Try → List Try → Type 0
AreMade most tasks m before [] = ⊤
AreMade most tasks m before (t ∷ ts) =
    ((t.plan ≡ []) ⊎ IsLonger most tasks m before t.plan) × AreMade most tasks m (before ++ t ∷ []) ts

-- What is found under all plans of at most so many errors of these Tasks, at invocations that were counted under the plan's other errors,
-- and under no other plan; and what these judges say of it.
pub record AreAllFound {J : Type 0} (accepts : Accepting J) (js : List J) (most : ℕ) (tasks : List Told) (o : Orders)
    (limit : ℕ) (s : Setup) (x : ErrorsFound) : Type 0 where
  pub tries : List Try
  pub each : AreTried accepts js most o limit s tries x.plans.items x.found.items
  pub none : is_told x.plans.items [] ≡ true
  pub longer : All (AreLongerTold most tasks s.machine x.plans.items) tries
  pub only : AreMade most tasks s.machine [] tries
  -- none is told twice
  pub once : AllPairs (λ (a b : PlanOutcomes). is_same_plan a.plan.items b.plan.items ≡ false) x.plans.items

-- ---- the Tasks of a definition

abbrev pub names_in : List (Bor (List ℕ)) → List (List ℕ)
names_in = map (λ (n : Bor (List ℕ)). n.now)

-- a Task with these errors in place of its own
abbrev pub with_errors : List (List ℕ) → Told → Told
with_errors names t = (t.0, names)

-- each with the errors that retriers and catchers tell apart, unless errors are named
abbrev pub tasks_failing : List (List ℕ) → Data → List Told
tasks_failing [] m = task_errors m
tasks_failing (n ∷ ns) m = map (with_errors (n ∷ ns)) (task_errors m)

-- ---- a plan that gives an outcome

-- the first plan that gives the outcome of a number, from 1, and what its search found of it
abbrev pub witness_at : ErrorsFound → ℕ × ℕ → Option (PlanOutcomes × Found)
witness_at x at = option_and_then (λ (p : PlanOutcomes). option_and_then (λ (w : Witnesses).
    option_map (λ f. (p, f)) (slice_get w.list.items at.1)) (slice_get x.found.items at.0)) (slice_get x.plans.items at.0)

abbrev pub witness_of : ℕ → ErrorsFound → Option (PlanOutcomes × Found)
witness_of n x = option_and_then (witness_at x) (place_of n x.plans.items)
