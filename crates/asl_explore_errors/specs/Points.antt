-- Which errors are put in: the plans of a search.
use Rattle.std.specs.Prelude.{ℕ, zero, suc, ◌+◌, max, List, [], ◌∷◌, ◌++◌, length, map, Bool, true, false, ◌&&◌, ◌||◌, nat_eq, nat_lt, Option, Some, None, option_map, unwrap_or, slice_get, codes, if◌then◌else◌}
use Rattle.std.specs.List.{flat_map, fold, insert, list_any, position}
use Rattle.std.specs.declared.vec.Vec.{Vec}
use Rattle.asl_json.specs.Same.{bytes_eq}
use Rattle.asl_json_data.specs.Data.{Data}
use Rattle.asl_def.specs.Machines.{state_number}
use Rattle.asl_error_plans.specs.declared.injected.InjectedError.{InjectedError}
use Rattle.asl_explore.specs.declared.calls.Bounds.{Bounds}
use Rattle.asl_explore.specs.declared.calls.Calls.{Calls}
use Rattle.asl_task_errors.specs.Tasks.{Told}
use Rattle.asl_explore_errors.specs.declared.points.Point.{Point}

-- ---- how often a Task is invoked

-- the state of a number at most in the orders of one outcome
abbrev pub most_in : ℕ → Calls → ℕ
most_in number c = unwrap_or (option_map (λ (b : Bounds). b.most) (slice_get c.bounds.items number)) 0

-- and in those of all
abbrev pub most_of : ℕ → List Calls → ℕ
most_of number cs = fold (λ most c. max most (most_in number c)) 0 cs

abbrev pub most_calls : Data → List Calls → List ℕ → ℕ
most_calls m cs name = unwrap_or (option_map (λ n. most_of n cs) (state_number name m)) 0

-- ---- which errors it may have

-- a Task that takes too long gives no cause
abbrev pub cause_of : List ℕ → Option (List ℕ)
cause_of error = if bytes_eq error (codes "States.Timeout") then None else Some (codes "put in")

abbrev pub injected : List ℕ → ℕ → List ℕ → Bool → InjectedError
injected state number error for_good =
    record { state = state; number = number; error = error; cause = cause_of error; for_good = for_good }

abbrev pub point : ℕ → InjectedError → Point
point task e = record { task = task; error = e }

-- an error once, and for good
abbrev pub both : ℕ → List ℕ → ℕ → List ℕ → List Point
both task state n e = point task (injected state n e false) ∷ point task (injected state n e true) ∷ []

-- each error of a Task at one of its invocations
abbrev pub at_invocation : ℕ → Told → ℕ → List Point
at_invocation task t n = flat_map (both task t.0 n) t.1

-- and at each of so many
abbrev pub at_invocations : ℕ → Told → ℕ → List Point
at_invocations task t zero = []
at_invocations task t (suc n) = at_invocations task t n ++ at_invocation task t n

-- of these Tasks, of which the first has this number, at each invocation that was counted
abbrev pub points_from : Data → List Calls → ℕ → List Told → List Point
points_from m cs task [] = []
points_from m cs task (t ∷ ts) = at_invocations task t (most_calls m cs t.0) ++ points_from m cs (task + 1) ts

-- ---- plans of one error more

-- the invocation is the same
abbrev pub is_there : Point → Point → Bool
is_there p q = nat_eq p.task q.task && nat_eq p.error.number q.error.number

-- that of an earlier Task, or an earlier one of the same
abbrev pub is_before : Point → Point → Bool
is_before p q = nat_lt p.task q.task || (nat_eq p.task q.task && nat_lt p.error.number q.error.number)

-- before the first of a later invocation
abbrev pub place_in : List Point → Point → ℕ
place_in plan p = unwrap_or (position (is_before p) plan) (length plan)

abbrev pub longer_by : List Point → Point → List Point
longer_by plan p = insert plan (place_in plan p) p

-- no plan has two errors of one invocation
abbrev pub with_point : List Point → Point → List (List Point)
with_point plan p = if list_any (is_there p) plan then [] else longer_by plan p ∷ []

-- with an error of one of these Tasks at an invocation that was counted
abbrev pub longer : List Told → Data → List Calls → List Point → List (List Point)
longer ts m cs plan = flat_map (with_point plan) (points_from m cs 0 ts)

-- ---- as they are told

abbrev pub errors_of : List Point → List InjectedError
errors_of = map (λ (p : Point). p.error)

abbrev pub plans_in : {Z : Type 0} → List (Vec Point Z) → List (List Point)
plans_in = map (λ v. v.items)
