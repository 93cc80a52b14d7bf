-- A plan with one error more.
use Rattle.std.proofs.Common.{◌≡◌, ◌≤◌, ℕ, ◌+◌, Bool, true, false, List, [], ◌∷◌, length, refl, arith, Option, Some, None}
use Rattle.std.specs.Prelude.{if◌then◌else◌, unwrap_or}
use Rattle.std.specs.List.{All, flat_map, list_any, position}
use Rattle.std.proofs.lemmas.List.Edits.{length-insert}
use Rattle.std.proofs.lemmas.List.Elements.{All-append, All-cons, All-nil}
use Rattle.std.proofs.lemmas.List.Quantifiers.{position-Some}
use Rattle.asl_json_data.specs.Data.{Data}
use Rattle.asl_explore.specs.declared.calls.Calls.{Calls}
use Rattle.asl_task_errors.specs.Tasks.{Told}
use Rattle.asl_explore_errors.specs.declared.points.Point.{Point}
use Rattle.asl_explore_errors.specs.Points.{is_before, is_there, longer, longer_by, place_in, points_from, with_point}

-- a place is within the plan
within : {X : Type 0} (p : X → Bool) (xs : List X) → unwrap_or (position p xs) (length xs) ≤ length xs
within {X} p xs = by (position p xs) refl
  where
    at : (xs : List X) (i : ℕ) → position p xs ≡ Some i → i ≤ length xs
    at [] i e = absurd (cc e)
    at (x ∷ ys) i e = omega (arith, (position-Some p (x ∷ ys) i x e).0)

    by : (o : Option ℕ) → position p xs ≡ o → unwrap_or o (length xs) ≤ length xs
    by None e = omega arith
    by (Some i) e = at xs i e

pub place_within : (plan : List Point) (p : Point) → place_in plan p ≤ length plan
place_within plan p = within (is_before p) plan

long_by : (plan : List Point) (p : Point) → length (longer_by plan p) ≡ length plan + 1
long_by plan p = length-insert plan (place_in plan p) p (place_within plan p)

all_flat_map : {X Y : Type 0} (P : Y → Type 0) (f : X → List Y) (xs : List X) → ((x : X) → All P (f x)) → All P (flat_map f xs)
all_flat_map P f [] h = All-nil P
all_flat_map P f (x ∷ xs) h = All-append P (f x) (flat_map f xs) (h x) (all_flat_map P f xs h)

-- each longer plan has one error more
pub all_longer : (tasks : List Told) (m : Data) (cs : List Calls) (plan : List Point)
    → All (λ (q : List Point). length q ≡ length plan + 1) (longer tasks m cs plan)
all_longer tasks m cs plan = all_flat_map P (with_point plan) (points_from m cs 0 tasks) (λ p. by p (list_any (is_there p) plan))
  where
    P : List Point → Type 0
    P q = length q ≡ length plan + 1

    by : (p : Point) (b : Bool) → All P (if b then [] else longer_by plan p ∷ [])
    by p true = All-nil P
    by p false = All-cons P (longer_by plan p) [] (long_by plan p) (All-nil P)
