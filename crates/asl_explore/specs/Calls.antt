-- How often states are invoked in the orders that end in an outcome.
use Rattle.std.specs.Prelude.{ℕ, ◌≡◌, ◌≤◌, ◌<◌, ◌⊎◌, true, length, get_or, slice_index, List}
use Rattle.std.specs.List.{All}
use Rattle.asl_def.specs.Machines.{state_count}
use Rattle.asl_run_state.specs.Bare.{bare}
use Rattle.asl_run_state.specs.World.{World, is_over}
use Rattle.asl_run_state.specs.declared.outcome.Outcome.{Outcome}
use Rattle.asl_run_input.specs.declared.setup.Setup.{Setup}
use Rattle.asl_exec.specs.Steps.{opening}
use Rattle.asl_explore.specs.Ends.{EndsIn, AreEndsIn, AllEndIn}
use Rattle.asl_explore.specs.Orders.{AreTried, after_order, after_bare, AreTriedOn}
use Rattle.asl_explore.specs.Searches.{IsMet, IsExpanded}
use Rattle.asl_explore.specs.declared.orders.Orders.{Orders}
use Rattle.asl_explore.specs.declared.calls.Bounds.{Bounds}
use Rattle.asl_explore.specs.declared.calls.Calls.{Calls}

-- bounds within which no number is
abbrev pub no_bounds : Bounds
no_bounds = record { least = 4_294_967_295; most = 0 }

-- both bounds are such numbers
pub record AreBoth (Q : ℕ → Type 0) (b : Bounds) : Type 0 where
  pub least : Q b.least
  pub most : Q b.most

-- a number is within bounds
pub record IsIn (b : Bounds) (n : ℕ) : Type 0 where
  pub low : b.least ≤ n
  pub high : n ≤ b.most

-- what is within these bounds is within those
abbrev pub AreWider : List Bounds → List Bounds → Type 0
AreWider bs cs = (k : ℕ) (d : Bounds) (n : ℕ) → IsIn (get_or bs k d) n → IsIn (get_or cs k d) n

-- how often each of so many states was invoked is within these bounds
abbrev pub AreIn : ℕ → Calls → List ℕ → Type 0
AreIn states c counts =
    (k : ℕ) (d : Bounds) → k < states → IsIn (get_or c.bounds.items k d) (slice_index counts k)

-- an outcome is among these, and how often each of so many states was invoked is within its bounds
pub record IsCounted (states : ℕ) (os : List Outcome) (cs : List Calls) (o : Outcome)
    (counts : List ℕ) : Type 0 where
  pub number : ℕ
  pub there : number < length os
  pub outcome : (d : Outcome) → get_or os number d ≡ o
  pub counted : number < length cs
  pub within : (d : Calls) → AreIn states (get_or cs number d) counts

-- the bounds of each outcome have become wider, if anything
pub record AreKept (cs ds : List Calls) : Type 0 where
  pub many : length ds ≡ length cs
  pub wider : (i : ℕ) (d : Calls)
      → AreWider (get_or cs i d).bounds.items (get_or ds i d).bounds.items

-- if a world is over, it is so there
abbrev pub IsEndCounted : ℕ → List Outcome → List Calls → World → Type 0
IsEndCounted states os cs w = EndsIn (IsCounted states os cs) w

-- whichever branch steps that is tried, if this ends the execution, it is so
abbrev pub AreEndsCounted : Orders → Setup → ℕ → List Outcome → List Calls → World → Type 0
AreEndsCounted o s states os cs w = AreEndsIn (IsCounted states os cs) o s w

-- the opening world is met, and each world that is met is expanded
pub record AllAreExpanded (o : Orders) (s : Setup) (ws : List World) (os : List Outcome) : Type 0 where
  pub begins : IsMet ws os (opening s)
  pub expanded : All (IsExpanded o s ws os) ws

-- in whatever order of these the branches step, if the execution ends, its outcome is among these,
-- and how often each state was invoked is within the bounds of this outcome
abbrev pub AreCounted : Orders → Setup → List Outcome → List Calls → Type 0
AreCounted o s os cs = AllEndIn (IsCounted (state_count s.machine) os cs) o s

-- an order that ends in this outcome, and in which the state of this number is invoked so often, if a
-- history could be as long as one likes
pub record ComesWith (o : Orders) (s : Setup) (outcome : Outcome) (number count : ℕ) : Type 0 where
  pub places : List (List ℕ)
  pub tried : AreTriedOn o s (bare (opening s)) places
  pub ends : (after_bare s (bare (opening s)) places).outcome ≡ outcome
  pub times : slice_index (after_bare s (bare (opening s)) places).counts number ≡ count

-- an outcome is among these, and each bound of how often one of so many states is invoked comes in
-- some order that ends in it
pub record AreBoundsMet (o : Orders) (s : Setup) (states : ℕ) (os : List Outcome) (cs : List Calls)
    (outcome : Outcome) : Type 0 where
  pub number : ℕ
  pub there : number < length os
  pub outcome_is : (d : Outcome) → get_or os number d ≡ outcome
  pub met : (d : Calls) (k : ℕ) (b : Bounds) → k < states
      → AreBoth (ComesWith o s outcome k) (get_or (get_or cs number d).bounds.items k b)

-- of each outcome in which an order ends that is tried
abbrev pub AreAllBoundsMet : Orders → Setup → List Outcome → List Calls → Type 0
AreAllBoundsMet o s os cs =
    (ps : List (List ℕ)) → AreTried o s (opening s) ps
    → is_over (after_order s (opening s) ps).outcome ≡ true
    → AreBoundsMet o s (state_count s.machine) os cs (after_order s (opening s) ps).outcome

-- ---- while they are counted

-- no number is within these bounds, or both are such numbers
abbrev pub AreBothOrNone : (ℕ → Type 0) → Bounds → Type 0
AreBothOrNone Q b = (b ≡ no_bounds) ⊎ AreBoth Q b

-- the same of the bounds of each state
abbrev pub AreEachMet : (ℕ → ℕ → Type 0) → List Bounds → Type 0
AreEachMet Q bs = (k : ℕ) (d : Bounds) → k < length bs → AreBothOrNone (Q k) (get_or bs k d)

-- and of each outcome: they come in orders that end in it
abbrev pub AreMetSoFar : Orders → Setup → List Outcome → List Calls → Type 0
AreMetSoFar o s os cs =
    (i : ℕ) (c : Calls) (d : Outcome) → i < length cs
    → AreEachMet (ComesWith o s (get_or os i d)) (get_or cs i c).bounds.items

-- where a world is over, its counts come in an order
abbrev pub ComesInOrders : Orders → Setup → World → Type 0
ComesInOrders o s w =
    is_over w.outcome ≡ true → (k : ℕ) → ComesWith o s w.outcome k (slice_index w.counts k)
