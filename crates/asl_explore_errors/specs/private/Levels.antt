-- Plans while they are tried, those of fewer errors first.
use Rattle.std.specs.Prelude.{ℕ, ◌≡◌, ◌⊎◌, ◌+◌, Bool, true, false, List, [], ◌∷◌, ◌++◌, length}
use Rattle.std.specs.List.{All, AllPairs, Contains}
use Rattle.asl_json_data.specs.Data.{Data}
use Rattle.asl_run_input.specs.declared.setup.Setup.{Setup}
use Rattle.asl_error_plans.specs.declared.injected.InjectedError.{InjectedError}
use Rattle.asl_error_plans.specs.declared.outcomes.PlanOutcomes.{PlanOutcomes}
use Rattle.asl_explore.specs.declared.calls.Calls.{Calls}
use Rattle.asl_explore.specs.declared.orders.Orders.{Orders}
use Rattle.asl_task_errors.specs.Tasks.{Told}
use Rattle.asl_explore_errors.specs.declared.points.Point.{Point}
use Rattle.asl_explore_errors.specs.declared.tried.ErrorsFound.{ErrorsFound}
use Rattle.asl_explore_errors.specs.declared.tried.Witnesses.{Witnesses}
use Rattle.asl_explore_errors.specs.Plans.{is_same_plan}
use Rattle.asl_explore_errors.specs.Points.{longer}
use Rattle.asl_explore_errors.specs.Searches.{Accepting, AreMade, AreTried, IsFoundUnder, IsLonger, Try, has_room, is_told}

-- a plan is told, or among those that are still to be tried
abbrev pub IsKnown : List PlanOutcomes → List (List Point) → List Point → Type 0
IsKnown ps pending plan = (is_told ps plan ≡ true) ⊎ Contains pending plan

abbrev pub AreLongerKnown : ℕ → List Told → Data → List PlanOutcomes → List (List Point) → Try → Type 0
AreLongerKnown most tasks m ps pending t =
    has_room most t.plan ≡ true → All (IsKnown ps pending) (longer tasks m t.calls t.plan)

-- a plan of so many errors, which is to be tried
abbrev pub IsPending : ℕ → List Told → Data → List Try → ℕ → List Point → Type 0
IsPending most tasks m ts number plan = (length plan ≡ number) × ((plan ≡ []) ⊎ IsLonger most tasks m ts plan)

-- so much is known when plans of so many errors are tried: these are left of them, and these have one error more
pub record IsLevel {J : Type 0} (accepts : Accepting J) (js : List J) (most : ℕ) (tasks : List Told) (o : Orders)
    (limit : ℕ) (s : Setup) (number : ℕ) (left next : List (List Point)) (x : ErrorsFound) : Type 0 where
  pub tries : List Try
  pub each : AreTried accepts js most o limit s tries x.plans.items x.found.items
  pub none : IsKnown x.plans.items (left ++ next) []
  pub longer : All (AreLongerKnown most tasks s.machine x.plans.items (left ++ next)) tries
  pub only : AreMade most tasks s.machine [] tries
  pub once : AllPairs (λ (a b : PlanOutcomes). is_same_plan a.plan.items b.plan.items ≡ false) x.plans.items
  pub wanted : All (IsPending most tasks s.machine tries number) left
  pub beyond : All (IsPending most tasks s.machine tries (number + 1)) next

-- one plan more was tried, with these errors
pub record IsAdded {J : Type 0} (accepts : Accepting J) (js : List J) (o : Orders) (limit : ℕ) (s : Setup)
    (counted : Bool) (plan : List InjectedError) (x y : ErrorsFound) (cs : List Calls) : Type 0 where
  pub tried : PlanOutcomes
  pub witnesses : Witnesses
  pub plans : y.plans.items ≡ x.plans.items ++ tried ∷ []
  pub found : y.found.items ≡ x.found.items ++ witnesses ∷ []
  pub is_plan : tried.plan.items ≡ plan
  pub is_found : IsFoundUnder accepts js o limit s counted tried witnesses cs
