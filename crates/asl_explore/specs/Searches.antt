-- What a search has met.
use Rattle.std.specs.Prelude.{ℕ, zero, suc, ◌≡◌, ◌⊎◌, ◌<◌, length, get_or, ◌++◌, true, false, ⊤, Bool, nat_lt, List, map, Option, Some, None}
use Rattle.std.specs.List.{All, AllPairs, Contains}
use Rattle.asl_step.specs.declared.record.Record.{Record}
use Rattle.asl_step.specs.Records.{name_in}
use Rattle.asl_run_branches.specs.Branches.{record_at, is_stopped}
use Rattle.asl_run_branches.specs.Earliest.{due_from}
use Rattle.asl_run_state.specs.World.{World, is_over, count_of}
use Rattle.asl_run_state.specs.Bare.{bare}
use Rattle.asl_run_state.specs.declared.outcome.Outcome.{Outcome}
use Rattle.asl_run_input.specs.declared.setup.Setup.{Setup}
use Rattle.asl_exec.specs.Steps.{number_in, object_in, invokes_by, step, opening, world_after}
use Rattle.asl_exec.specs.Exchanges.{goes_on}
use Rattle.asl_exec_moment_laws.specs.Moments.{DifferInMoments}
use Rattle.asl_explore.specs.Orders.{due, timed, places_of, MayStep, IsTried, AreTried, after_order, after_bare, AreTriedOn}
use Rattle.asl_explore.specs.Settled.{IsSettledAt}
use Rattle.asl_explore.specs.declared.found.Found.{Found}
use Rattle.asl_explore.specs.declared.orders.Orders.{Orders}
use Rattle.asl_explore.specs.declared.orders.Orders.TheVariants.{Prompt}
use Rattle.asl_explore.specs.declared.met.Node.{Node}

-- a world is met: its outcome is among these, or, while it runs, it is one of these worlds, but for
-- its history
pub record IsMet (ws : List World) (os : List Outcome) (w : World) : Type 0 where
  pub ends : is_over w.outcome ≡ true → Contains os w.outcome
  pub runs : is_over w.outcome ≡ false → Contains ws (bare w)

-- the same, where a world stands for all that differ from it in moments alone
pub record IsMetAside (ws : List World) (os : List Outcome) (w : World) : Type 0 where
  pub ends : is_over w.outcome ≡ true → Contains os w.outcome
  pub runs : is_over w.outcome ≡ false
      → (v : World) × (Contains ws v × DifferInMoments (bare w) (bare v))

-- whichever branch steps, the world that it leaves is met so
abbrev pub IsExpandedAside : Setup → List World → List Outcome → World → Type 0
IsExpandedAside s ws os w = (p : List ℕ) → IsMetAside ws os (step s (bare w) p (due w p))

-- whichever branch steps that is tried, the world that it leaves is met
abbrev pub IsExpanded : Orders → Setup → List World → List Outcome → World → Type 0
IsExpanded o s ws os w =
    (p : List ℕ) → IsTried o s w p → IsMet ws os (step s w p (due w p))

-- steps that are tried lead to this world from the beginning, if a history could be as long as one
-- likes
pub record IsReached (o : Orders) (s : Setup) (w : World) : Type 0 where
  pub places : List (List ℕ)
  pub tried : AreTriedOn o s (bare (opening s)) places
  pub leads : after_bare s (bare (opening s)) places ≡ w

-- whichever world that runs is reached is one of these
abbrev pub AreAllReached : Orders → Setup → List World → Type 0
AreAllReached o s ws =
    (w : World) → IsReached o s w → is_over w.outcome ≡ false → Contains ws w

-- a world is the one of this number
abbrev pub StandsAt : List World → ℕ → World → Type 0
StandsAt ws i w = (i < length ws) × ((d : World) → get_or ws i d ≡ w)

-- ---- worlds in which one step alone is taken

-- a step of a branch that does this invokes nothing, or a Task that is settled
abbrev pub IsCalm : Setup → World → Record → Type 0
IsCalm s w r =
    (invokes_by (object_in s.machine r) ≡ false)
    ⊎ IsSettledAt s (name_in r) (count_of w.counts (number_in s.machine r))

-- a step that may be taken at once, invokes nothing or a Task that is settled, and neither ends the
-- execution nor fails its branch
pub record IsQuietAt (s : Setup) (w : World) (p : List ℕ) : Type 0 where
  pub goes : goes_on s w p w.last ≡ true
  pub calm : (r : Record) → record_at p w.branches ≡ Some r → IsCalm s w r

-- of the world of this number only such a step is taken: it leads to a world of a higher number
pub record IsReduced (s : Setup) (ws : List World) (number : ℕ) (w : World) : Type 0 where
  pub place : List ℕ
  pub quiet : IsQuietAt s w place
  pub next : ℕ
  pub later : number < next
  pub leads : StandsAt ws next (bare (step s w place w.last))

-- of the world of this number every step that is tried is taken; or, where no branch is to be late,
-- only a quiet one
abbrev pub IsTakenOn : Orders → Setup → List World → List Outcome → ℕ → World → Type 0
IsTakenOn o s ws os number w =
    IsExpanded o s ws os w ⊎ ((o ≡ Prompt) × IsReduced s ws number w)

-- the same of the first worlds
abbrev pub AreTakenOn : Orders → Setup → List World → List Outcome → ℕ → Type 0
AreTakenOn o s ws os n =
    (i : ℕ) → i < n → (d : World) → IsTakenOn o s ws os i (get_or ws i d)

-- a branch that nothing stops waits for a later moment
pub record Waits (w : World) : Type 0 where
  pub place : List ℕ
  pub current : Record
  pub there : record_at place w.branches ≡ Some current
  pub free : is_stopped place w.branches ≡ false
  pub waits : w.last < due_from w.last current

-- in none of these worlds one does
abbrev pub NoneWaits : List World → Type 0
NoneWaits ws = (i : ℕ) → i < length ws → (d : World) → Waits (get_or ws i d) → ⊥

-- a search met the opening world, and took enough steps of each world that it met
pub record IsClosed (o : Orders) (s : Setup) (ws : List World) (os : List Outcome) : Type 0 where
  pub begins : IsMet ws os (opening s)
  pub taken : AreTakenOn o s ws os (length ws)

-- ---- worlds in which every step is taken that is tried

-- a step at this moment is later than one that may be taken
abbrev pub is_beyond : Option ℕ → ℕ → Bool
is_beyond None t = false
is_beyond (Some m) t = nat_lt m t

-- some branch may step at this moment
pub record IsOpenAt (s : Setup) (w : World) (m : ℕ) : Type 0 where
  pub place : List ℕ
  pub may : MayStep s w place
  pub due_is : due w place ≡ m

-- no step that is tried is beyond this moment
abbrev pub IsBound : Orders → Setup → World → Option ℕ → Type 0
IsBound o s w None = ⊤
IsBound o s w (Some m) = (o ≡ Prompt) × IsOpenAt s w m

-- the worlds of a search, without their histories
abbrev pub worlds_of : List Node → List World
worlds_of ns = map (λ (n : Node). bare n.world) ns

abbrev pub outcomes_of : List Found → List Outcome
outcomes_of fs = map (λ (f : Found). f.outcome) fs

-- these steps, each one that is tried and at the earliest moment of its branch, end in that outcome
pub record Shows (o : Orders) (s : Setup) (f : Found) : Type 0 where
  pub over : is_over f.outcome ≡ true
  pub gives : (world_after s (opening s) f.steps.items).outcome ≡ f.outcome
  pub timed : f.steps.items ≡ timed s (opening s) (places_of f.steps.items)
  pub tried : AreTried o s (opening s) (places_of f.steps.items)

-- an order in which no branch is late ends in this outcome
pub record IsPromptOutcome (s : Setup) (o : Outcome) : Type 0 where
  pub places : List (List ℕ)
  pub tried : AreTried Prompt s (opening s) places
  pub ends : (after_order s (opening s) places).outcome ≡ o

-- so it is with an outcome that was found
abbrev pub ComesPromptly : Setup → Found → Type 0
ComesPromptly s f = IsPromptOutcome s f.outcome

-- each of these has ended the execution
abbrev pub AreOver : List Found → Type 0
AreOver fs = All (λ (f : Found). is_over f.outcome ≡ true) fs

-- no order in which no branch is late ends in this outcome
abbrev pub IsLateOutcome : Setup → Outcome → Type 0
IsLateOutcome s o =
    (ps : List (List ℕ)) → AreTried Prompt s (opening s) ps
    → (after_order s (opening s) ps).outcome ≡ o → ⊥

-- this holds of the outcome of this number, from 1
abbrev pub IsNumbered : (Outcome → Type 0) → List Found → ℕ → Type 0
IsNumbered P fs zero = ⊥
IsNumbered P fs (suc i) = (i < length fs) × ((d : Found) → P (get_or fs i d).outcome)

-- the outcomes of these numbers come only where a branch is late
abbrev pub AreLate : Setup → List Found → List ℕ → Type 0
AreLate s fs ns = All (IsNumbered (IsLateOutcome s) fs) ns

-- whatever outcome comes only where a branch is late, its number is listed
abbrev pub AreAllLate : Setup → List Found → List ℕ → Type 0
AreAllLate s fs ns =
    (i : ℕ) → i < length fs → ((d : Found) → IsLateOutcome s (get_or fs i d).outcome)
    → Contains ns (suc i)

-- an outcome isn't among those that were found
abbrev pub IsMissing : List Found → Outcome → Type 0
IsMissing fs o = All (λ (a : Outcome). a ≡ o → ⊥) (outcomes_of fs)

-- whatever outcome isn't among those others, its number is listed
abbrev pub AreAllListed : List Found → List Found → List ℕ → Type 0
AreAllListed gs fs ns =
    (i : ℕ) → i < length fs → ((d : Found) → IsMissing gs (get_or fs i d).outcome)
    → Contains ns (suc i)

-- no two are the same
abbrev pub AreDistinct : List Outcome → Type 0
AreDistinct os = AllPairs (λ (a b : Outcome). a ≡ b → ⊥) os

-- worlds and outcomes of a search, and those of it later on
pub record IsLater (ws : List World) (os : List Outcome) (vs : List World)
    (us : List Outcome) : Type 0 where
  pub more_worlds : List World
  pub more_outcomes : List Outcome
  pub worlds : vs ≡ ws ++ more_worlds
  pub outcomes : us ≡ os ++ more_outcomes
