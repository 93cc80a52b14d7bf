-- When a step is refused, and the world before the first step.
use Rattle.std.specs.Prelude.{ℕ, Bool, List, [], ◌∷◌, max, length, nat_lt, if◌then◌else◌, Option, Some, None, replicate}
use Rattle.asl_json.specs.declared.value.Json.{Json}
use Rattle.asl_history.specs.Events.{event_after}
use Rattle.asl_history.specs.declared.kind.EventKind.TheVariants.{ExecutionStarted}
use Rattle.asl_step.specs.declared.record.Record.{Record}
use Rattle.asl_step.specs.declared.record.Record.TheVariants.{New, Ready, Pausing, Again, Forked, Done, Failed}
use Rattle.asl_run_state.specs.declared.outcome.Outcome.TheVariants.{Running}
use Rattle.asl_run_state.specs.declared.refusal.Refusal.{Refusal}
use Rattle.asl_run_state.specs.declared.refusal.Refusal.TheVariants.{Over, NoSuchPlace, Stopped, Finished, Busy, Slots, NotYet, HistoryFull}
use Rattle.asl_run_branches.specs.Branches.{record_at, children_at, is_stopped, is_busy}
use Rattle.asl_run_branches.specs.Turns.{is_crowded}
use Rattle.asl_run_state.specs.World.{World, is_over, is_late}

-- ---- when a step is refused

-- so many events at the most leave room for a step's: a history has at most 25,000 (Developer
-- Guide, "Quotas"), and a step tells at most 8
abbrev pub most_events : ℕ
most_events = 24992

-- there is no room for a step's events
abbrev pub is_full : World → Bool
is_full w = nat_lt most_events (length w.events)

abbrev pub refusal_if_full : World → Option Refusal
refusal_if_full w = if is_full w then Some HistoryFull else None

abbrev pub refusal_before : ℕ → ℕ → World → Option Refusal
refusal_before until now w = if nat_lt now until then Some (NotYet until) else refusal_if_full w

abbrev pub refusal_by : World → List ℕ → ℕ → ℕ → Record → Option Refusal
refusal_by w p now slots (New n x) =
    if is_crowded slots p w.branches then Some Slots else refusal_if_full w
refusal_by w p now slots (Ready n x) = refusal_if_full w
refusal_by w p now slots (Pausing n x since until) = refusal_before until now w
refusal_by w p now slots (Again n x since uses until) = refusal_before until now w
refusal_by w p now slots (Forked n x since uses items) =
    if is_busy (children_at p w.branches) then Some Busy else refusal_if_full w
refusal_by w p now slots (Done x) = Some Finished
refusal_by w p now slots (Failed e) = Some Finished

abbrev pub refusal_at : World → List ℕ → ℕ → ℕ → Option Record → Option Refusal
refusal_at w p now slots None = Some NoSuchPlace
refusal_at w p now slots (Some r) =
    if is_stopped p w.branches then Some Stopped else refusal_by w p now slots r

-- why a step at a place, handed this moment, is refused: the first reason that applies. The Map of
-- which the branch is an iteration
-- runs at most so many at once. Where the execution's time is over, a step at any place ends it
unfoldable pub refusal_of : World → List ℕ → ℕ → ℕ → Option Refusal
refusal_of w p t slots =
    if is_over w.outcome then Some Over
    else (if is_late (max w.last t) w.deadline then None
    else refusal_at w p (max w.last t) slots (record_at p w.branches))

-- ---- before the first step

-- the world before the first step, of a machine with so many states that starts at this one
abbrev pub opening_at : ℕ → List ℕ → Json → ℕ → Option ℕ → World
opening_at states start input moment deadline = record {
  branches = record { place = []; current = Ready start input } ∷ [];
  counts = replicate states 0;
  events = event_after [] moment ExecutionStarted [] [] input ∷ [];
  last = moment;
  deadline = deadline;
  outcome = Running;
}
