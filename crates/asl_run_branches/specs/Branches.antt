-- Running branches as a list in the order of their places, what is read of it, and what a step
-- makes of it.
use Rattle.std.specs.Prelude.{ℕ, Bool, false, not, ◌+◌, ◌==◌, ◌&&◌, List, [], ◌∷◌, ◌++◌, map, if◌then◌else◌, Option, Some, None, nat_eq, nat_lt, slice_get}
use Rattle.std.specs.Option.{option_or}
use Rattle.asl_json_data.specs.Data.{Data}
use Rattle.std.specs.Cmp.Lexicographic.{pointwise}
use Rattle.std.specs.List.{filter, flat_map, list_any, list_all}
use Rattle.asl_history.specs.Places.{is_prefix, is_child, is_beside}
use Rattle.asl_step.specs.Bounds.{are_kept}
use Rattle.asl_step.specs.Records.{is_failed, is_done}
use Rattle.asl_step.specs.declared.effect.Children.{Children}
use Rattle.asl_step.specs.declared.effect.Children.TheVariants.{Kept, Removed, Forked as Made}
use Rattle.asl_step.specs.declared.record.Record.{Record}
use Rattle.asl_step.specs.declared.record.Record.TheVariants.{Forked}

-- a branch: its place, and what it is doing
pub record Branch : Type 0 where
  pub place : List ℕ
  pub current : Record

-- ---- what is read at a place

abbrev pub same_place : List ℕ → List ℕ → Bool
same_place p q = pointwise nat_eq p q

abbrev pub first_of : List Branch → Option Record
first_of [] = None
first_of (b ∷ bs) = Some b.current

-- what the branch at a place is doing
abbrev pub record_at : List ℕ → List Branch → Option Record
record_at p bs = first_of (filter (λ b. same_place p b.place) bs)

-- what the branches directly under a place are doing, in order
abbrev pub children_at : List ℕ → List Branch → List Record
children_at p bs = map (λ b. b.current) (filter (λ b. is_child p b.place) bs)

-- the name of the Map, where a branch waits for its iterations
abbrev pub map_in : Record → Option (List ℕ)
map_in (Forked n x since uses (i ∷ items)) = Some n
map_in _ = None

abbrev pub map_of : Option Record → Option (List ℕ)
map_of None = None
map_of (Some r) = map_in r

-- the name of the Map of which the branch at a place is an iteration: the one directly above it,
-- where that is a Map
abbrev pub forker_at : List ℕ → List Branch → Option (List ℕ)
forker_at p bs = map_of (first_of (filter (λ b. is_child b.place p) bs))

-- a sibling of the place, or of a place above it, has failed
abbrev pub is_stopped : List ℕ → List Branch → Bool
is_stopped p bs = list_any (λ b. is_failed b.current && is_beside p b.place) bs

-- the part of a place behind this one that leads to it; none where it doesn't
abbrev pub beyond : List ℕ → List ℕ → Option (List ℕ)
beyond [] p = Some p
beyond (x ∷ xs) [] = None
beyond (x ∷ xs) (y ∷ ys) = if x == y then beyond xs ys else None

abbrev pub numbered_item : ℕ → Option Data → Option (ℕ × Data)
numbered_item i None = None
numbered_item i (Some d) = Some (i, d)

-- the number and the item of the iteration that a branch under this one is in, at or under the
-- child of this number
abbrev pub iteration_in : Record → Option (List ℕ) → Option (ℕ × Data)
iteration_in (Forked n x since uses items) (Some (i ∷ deeper)) = numbered_item i (slice_get items i)
iteration_in r o = None

-- the number and the item of the innermost iteration of a Map that a place is at or under; none
-- where it is in no Map
abbrev pub iteration_at : List ℕ → List Branch → Option (ℕ × Data)
iteration_at p [] = None
iteration_at p (b ∷ bs) = option_or (iteration_at p bs) (iteration_in b.current (beyond b.place p))

-- the second is a sibling of the first with a lower number
abbrev pub is_elder : List ℕ → List ℕ → Bool
is_elder [] q = false
is_elder (x ∷ xs) [] = false
is_elder (x ∷ []) (y ∷ []) = nat_lt y x
is_elder (x ∷ []) (y ∷ z ∷ zs) = false
is_elder (x ∷ w ∷ ws) (y ∷ ys) = (x == y) && is_elder (w ∷ ws) ys

-- what its siblings with lower numbers are doing
abbrev pub elders_at : List ℕ → List Branch → List Record
elders_at p bs = map (λ b. b.current) (filter (λ b. is_elder p b.place) bs)

-- how many of these aren't done
abbrev pub undone_in : List Record → ℕ
undone_in [] = 0
undone_in (r ∷ rs) = (if is_done r then 0 else 1) + undone_in rs

-- no child has failed, and some child is not done
abbrev pub is_busy : List Record → Bool
is_busy rs = not (list_any is_failed rs) && not (list_all is_done rs)

-- ---- what a step makes of it

-- branches at the places directly under p, numbered from i
abbrev pub numbered : List ℕ → ℕ → List Record → List Branch
numbered p i [] = []
numbered p i (r ∷ rs) = record { place = p ++ i ∷ []; current = r } ∷ numbered p (i + 1) rs

abbrev pub made : List ℕ → Children → List Branch
made p Kept = []
made p Removed = []
made p (Made rs) = numbered p 0 rs

-- the branch that steps, and its new children
abbrev pub family : List ℕ → Record → Children → List Branch
family p r c = record { place = p; current = r } ∷ made p c

-- what becomes of a branch when the one at p does this from now on, and this becomes of those under
-- it
abbrev pub branch_after : List ℕ → Record → Children → Branch → List Branch
branch_after p r c b =
    if same_place p b.place then family p r c else if is_prefix p b.place && not (are_kept c)
    then [] else b ∷ []

abbrev pub branches_after : List ℕ → Record → Children → List Branch → List Branch
branches_after p r c bs = flat_map (branch_after p r c) bs
