-- What is seen of a state while the worlds of a search are looked at.
use Rattle.std.specs.Prelude.{ℕ, ◌≡◌, ◌≤◌, ◌<◌, ◌&&◌, ◌||◌, not, Bool, false, List, length, max, min, nat_eq, nat_le, slice_index_or, if◌then◌else◌, Option, Some, None, IfSome}
use Rattle.std.specs.List.{Contains, count_by, list_any}
use Rattle.asl_def.specs.Machines.{state_count}
use Rattle.asl_run_branches.specs.Branches.{Branch}
use Rattle.asl_run_state.specs.World.{World, count_of}
use Rattle.asl_run_input.specs.declared.setup.Setup.{Setup}
use Rattle.asl_explore.specs.declared.orders.Orders.{Orders}
use Rattle.asl_explore.specs.declared.seeing.Look.{Look}
use Rattle.asl_explore.specs.declared.sights.Sight.{Sight}
use Rattle.asl_explore.specs.Remarks.{askers, asks, count_behind, enters, is_cut_off, is_entered, is_tried_at, most_asked, stops}
use Rattle.asl_explore.specs.Searches.{is_beyond}

-- ---- one branch

-- a step is one that is tried where it isn't beyond this moment
abbrev pub IsBoundOf : Orders → Setup → World → Option ℕ → Type 0
IsBoundOf o s w bound = (t : ℕ) → is_beyond bound t ≡ not (is_tried_at o s w t)

abbrev pub look_enters : ℕ → Option Look → Bool
look_enters n None = false
look_enters n (Some l) = nat_eq n l.number && l.enters

abbrev pub look_asks : ℕ → Option Look → Bool
look_asks n None = false
look_asks n (Some l) = nat_eq n l.number && l.asks

abbrev pub look_stops : ℕ → Option Look → Bool
look_stops n None = false
look_stops n (Some l) = nat_eq n l.number && l.stops

-- what the branch at a place does next
pub record IsLook (o : Orders) (s : Setup) (w : World) (p : List ℕ) (l : Option Look) : Type 0 where
  pub enters_is : (n : ℕ) → look_enters n l ≡ enters o s w n p
  pub asks_is : (n : ℕ) → look_asks n l ≡ asks o s w n p
  pub stops_is : (n : ℕ) → look_stops n l ≡ stops s w n p

-- what each branch of a world does next
pub record AreLooks (o : Orders) (s : Setup) (w : World) (ls : List (Option Look)) : Type 0 where
  pub many : length ls ≡ length w.branches
  pub each : (k : ℕ) (b : Branch) (d : Option Look) → k < length ls
      → IsLook o s w (slice_index_or w.branches k b).place (slice_index_or ls k d)

-- how often the state of a number was invoked behind the step of this branch, where it asks for an
-- answer to it
abbrev pub look_behind : Setup → World → List ℕ → ℕ → Option Look → ℕ
look_behind s w p n l = if look_asks n l then count_behind s w n p else 0

-- ---- one state

abbrev pub least_with : Option ℕ → ℕ → ℕ
least_with None n = n
least_with (Some m) n = min m n

-- with what the branches of one more world do next, in which it was invoked so often
abbrev pub noted : ℕ → List (Option Look) → ℕ → Sight → Sight
noted n ls count x = record {
  is_entered = x.is_entered || list_any (look_enters n) ls;
  is_cut_off = x.is_cut_off || list_any (look_stops n) ls;
  most = x.most;
  shared_from =
      if nat_le 2 (count_by (look_asks n) ls) then Some (least_with x.shared_from count)
      else x.shared_from;
}

abbrev pub with_most : ℕ → Sight → Sight
with_most n x = record x { most = max x.most n }

-- two branches of one of these worlds ask for an answer of this number at once
pub record IsSharedFrom (o : Orders) (s : Setup) (ws : List World) (n number : ℕ) : Type 0 where
  pub world : World
  pub met : Contains ws world
  pub two : 2 ≤ askers o s n world
  pub number_is : count_of world.counts (Some n) ≡ number

-- it is so from this number on, or lower
abbrev pub IsNoLess : Option ℕ → ℕ → Type 0
IsNoLess least number = (m : ℕ) × ((least ≡ Some m) × (m ≤ number))

-- what is seen of the state of a number in these worlds
pub record IsSeen (o : Orders) (s : Setup) (ws : List World) (n : ℕ) (x : Sight) : Type 0 where
  pub entered : x.is_entered ≡ is_entered o s ws n
  pub cut_off : x.is_cut_off ≡ is_cut_off s ws n
  pub most : x.most ≡ most_asked o s ws n
  pub shared : IfSome x.shared_from (IsSharedFrom o s ws n)
  pub least : (w : World) → Contains ws w → 2 ≤ askers o s n w
      → IsNoLess x.shared_from (count_of w.counts (Some n))

-- and of each state
pub record AreSeen (o : Orders) (s : Setup) (ws : List World) (xs : List Sight) : Type 0 where
  pub many : length xs ≡ state_count s.machine
  pub each : (n : ℕ) (d : Sight) → n < length xs → IsSeen o s ws n (slice_index_or xs n d)
