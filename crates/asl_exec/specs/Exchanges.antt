-- Steps that may change places.
use Rattle.std.specs.Prelude.{ℕ, ◌≡◌, ◌≤◌, ◌==◌, ◌&&◌, Bool, false, not, List, [], ◌∷◌, length, map, nat_le, is_none, if◌then◌else◌, Option, Some, None, option_map}
use Rattle.std.specs.List.{filter}
use Rattle.asl_json_data.specs.Data.{Data}
use Rattle.asl_json.specs.Same.{bytes_eq}
use Rattle.asl_history.specs.Places.{is_prefix}
use Rattle.asl_history.specs.declared.event.Event.{Event}
use Rattle.asl_step.specs.declared.effect.Draft.{Draft}
use Rattle.asl_step.specs.declared.record.Record.{Record}
use Rattle.asl_step.specs.Records.{state_in, is_failed}
use Rattle.asl_step.specs.Rows.{draft}
use Rattle.asl_run_branches.specs.Branches.{Branch, same_place, record_at}
use Rattle.asl_run_state.specs.World.{World, is_over}
use Rattle.asl_run_input.specs.declared.setup.Setup.{Setup}
use Rattle.asl_run_input.specs.declared.step_at.StepAt.{StepAt}
use Rattle.asl_exec.specs.Steps.{object_in, invokes_by, refusal_in, step}
use Rattle.asl_exec.specs.declared.obstacle.Obstacle.{Obstacle}
use Rattle.asl_exec.specs.declared.obstacle.Obstacle.TheVariants.{OnePlace, Above, TwoMoments, Refused, OneTask, Ends, Fails, NoRoom}

-- ---- when two steps may change places

-- neither place is the other or is above it
abbrev pub are_apart : List ℕ → List ℕ → Bool
are_apart p q = not (is_prefix p q) && not (is_prefix q p)

abbrev pub has_failed : Option Record → Bool
has_failed None = false
has_failed (Some r) = is_failed r

-- a step at a place is accepted, and neither ends the execution nor fails its branch
abbrev pub goes_on : Setup → World → List ℕ → ℕ → Bool
goes_on s w p t =
    is_none (refusal_in s w p t)
    && (not (is_over (step s w p t).outcome)
    && not (has_failed (record_at p (step s w p t).branches)))

-- the name of the state that a step of this branch invokes; none where it invokes none
abbrev pub invoked_by : Data → Option Record → Option (List ℕ)
invoked_by d None = None
invoked_by d (Some r) = if invokes_by (object_in d r) then state_in r else None

-- the same of a step at a place
abbrev pub invoked_at : Setup → World → List ℕ → Option (List ℕ)
invoked_at s w p = invoked_by s.machine (record_at p w.branches)

-- these are names, and the same
abbrev pub are_one_name : Option (List ℕ) → Option (List ℕ) → Bool
are_one_name None m = false
are_one_name (Some n) None = false
are_one_name (Some n) (Some m) = bytes_eq n m

-- steps at two places invoke one state
abbrev pub invoke_one : Setup → World → List ℕ → List ℕ → Bool
invoke_one s w p q = are_one_name (invoked_at s w p) (invoked_at s w q)

-- so many events at the most leave room for those of two steps
abbrev pub most_events : ℕ
most_events = 24984

-- two steps may change places: they are at places apart and at one moment, both go on, they invoke
-- no state in common, and there is room for their events
abbrev pub are_exchangeable : Setup → World → StepAt → StepAt → Bool
are_exchangeable s w a b =
    are_apart a.place b.place
    && ((a.moment == b.moment)
    && (goes_on s w a.place a.moment
    && (goes_on s w b.place b.moment
    && (not (invoke_one s w a.place b.place) && nat_le (length w.events) most_events))))

-- ---- why they may not

-- places that aren't apart
abbrev pub in_line : List ℕ → List ℕ → Option Obstacle
in_line p q =
    if is_prefix p q then (if is_prefix q p then Some (OnePlace p) else Some (Above p q))
    else (if is_prefix q p then Some (Above q p) else None)

abbrev pub two_moments : ℕ → ℕ → Option Obstacle
two_moments t u = if t == u then None else Some TwoMoments

abbrev pub refused : Setup → World → StepAt → Option Obstacle
refused s w a = option_map (λ r. Refused a.place r) (refusal_in s w a.place a.moment)

abbrev pub one_task : Option (List ℕ) → Option (List ℕ) → Option Obstacle
one_task n m = if are_one_name n m then option_map (λ n. OneTask n) n else None

abbrev pub halt_by : Bool → Bool → List ℕ → Option Obstacle
halt_by ends fails p =
    if ends then Some (Ends p) else (if fails then Some (Fails p) else None)

-- an accepted step that doesn't go on
abbrev pub halted : Setup → World → StepAt → Option Obstacle
halted s w a =
    halt_by (is_over (step s w a.place a.moment).outcome)
    (has_failed (record_at a.place (step s w a.place a.moment).branches)) a.place

abbrev pub no_room : World → Option Obstacle
no_room w = if nat_le (length w.events) most_events then None else Some NoRoom

abbrev pub first_among : List (Option Obstacle) → Option Obstacle
first_among [] = None
first_among (None ∷ os) = first_among os
first_among (Some o ∷ os) = Some o

-- the first of these reasons why two steps may not change places; none where they may
abbrev pub obstacle_to : Setup → World → StepAt → StepAt → Option Obstacle
obstacle_to s w a b =
    first_among (
    in_line a.place b.place
    ∷ two_moments a.moment b.moment
    ∷ refused s w a
    ∷ refused s w b
    ∷ one_task (invoked_at s w a.place) (invoked_at s w b.place)
    ∷ halted s w a
    ∷ halted s w b
    ∷ no_room w
    ∷ [])

-- ---- what it means that they do

-- what was told at a place, in order, and when: its events but for their ids and previous ids
abbrev pub told_at : List ℕ → List Event → List (ℕ × Draft)
told_at p es =
    map (λ e. (e.at, draft e.kind e.name e.body)) (filter (λ e. same_place p e.place) es)

-- worlds with the same branches, counts, outcome, last moment and deadline, where as much was told,
-- and at each place the same
pub record AreAlike (u v : World) : Type 0 where
  pub branches : u.branches ≡ v.branches
  pub counts : u.counts ≡ v.counts
  pub outcome : u.outcome ≡ v.outcome
  pub last : u.last ≡ v.last
  pub deadline : u.deadline ≡ v.deadline
  pub many : length u.events ≡ length v.events
  pub told : (p : List ℕ) → told_at p u.events ≡ told_at p v.events

-- each step is accepted after the other, and both orders leave the same
pub record AreExchanged (s : Setup) (w : World) (a b : StepAt) : Type 0 where
  pub second : refusal_in s (step s w a.place a.moment) b.place b.moment ≡ None
  pub first : refusal_in s (step s w b.place b.moment) a.place a.moment ≡ None
  pub alike : AreAlike (step s (step s w a.place a.moment) b.place b.moment)
      (step s (step s w b.place b.moment) a.place a.moment)

-- ---- of which worlds

-- at most one branch is at each place
abbrev pub IsOneEach : List Branch → Type 0
IsOneEach bs = (p : List ℕ) → length (filter (λ b. same_place p b.place) bs) ≤ 1
