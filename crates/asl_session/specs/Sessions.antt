-- A session of the debugger: what it replies to a command, and what the command makes of it.
use Rattle.std.specs.Prelude.{ℕ, Bool, not, ◌&&◌, ◌-◌, nat_eq, nat_le, List, [], ◌∷◌, ◌++◌, length, take, max, if◌then◌else◌, is_some, Option, Some, None}
use Rattle.std.specs.List.{filter, list_any}
use Rattle.std.specs.Cmp.Lexicographic.{pointwise}
use Rattle.asl_history.specs.Places.{is_prefix}
use Rattle.asl_def.specs.Machines.{state_object}
use Rattle.asl_step.specs.declared.record.Record.{Record}
use Rattle.asl_step.specs.declared.record.Record.TheVariants.{New, Ready}
use Rattle.asl_run_branches.specs.Branches.{record_at}
use Rattle.asl_run_state.specs.World.{World, is_late}
use Rattle.asl_run_state.specs.declared.refusal.Refusal.{Refusal}
use Rattle.asl_run_input.specs.declared.setup.Setup.{Setup}
use Rattle.asl_run_input.specs.declared.step_at.StepAt.{StepAt}
use Rattle.asl_exec.specs.Steps.{opening, world_after, refusal_in}
use Rattle.asl_session.specs.declared.command.Command.{Command}
use Rattle.asl_session.specs.declared.command.Command.TheVariants.{Step, Break, Clear, Resume, Show, Back}
use Rattle.asl_session.specs.declared.reply.Reply.{Reply}
use Rattle.asl_session.specs.declared.reply.Reply.TheVariants.{Stepped, Refused, Paused, Set, Cleared, Resumed, NotPaused, NoSuchState, NoSuchPlace, Shown, WentBack, TooFar}

-- what its execution began with; the steps that were accepted; the names of the states at which
-- branches pause; the places that may go on from there
pub record Session : Type 0 where
  pub setup : Setup
  pub steps : List StepAt
  pub breakpoints : List (List ℕ)
  pub released : List (List ℕ)

-- before the first command
abbrev pub opened : Setup → Session
opened setup = record { setup = setup; steps = []; breakpoints = []; released = [] }

-- an execution that begins with the same, at this moment
abbrev pub begun_at : ℕ → Setup → Setup
begun_at start s = record s { start = start }

-- the session whose execution begins anew at this moment; what was said of breakpoints stays
abbrev pub restarted : ℕ → Session → Session
restarted start s = record s { setup = begun_at start s.setup; steps = [] }

-- its world is that of its steps, whatever else it was told
abbrev pub world_in : Session → World
world_in s = world_after s.setup (opening s.setup) s.steps

-- ---- names and places, of which each is there at most once

abbrev pub is_among : List ℕ → List (List ℕ) → Bool
is_among x xs = list_any (λ y. pointwise nat_eq y x) xs

abbrev pub with_one : List ℕ → List (List ℕ) → List (List ℕ)
with_one x xs = if is_among x xs then xs else xs ++ x ∷ []

abbrev pub without : List ℕ → List (List ℕ) → List (List ℕ)
without x xs = filter (λ y. not (pointwise nat_eq y x)) xs

-- without a place and those under it
abbrev pub left_by : List ℕ → List (List ℕ) → List (List ℕ)
left_by p ps = filter (λ q. not (is_prefix p q)) ps

-- ---- where a branch pauses

-- the state that a branch is about to enter
abbrev pub entering_in : Record → Option (List ℕ)
entering_in (New n x) = Some n
entering_in (Ready n x) = Some n
entering_in _ = None

abbrev pub entering_of : Option Record → Option (List ℕ)
entering_of None = None
entering_of (Some r) = entering_in r

abbrev pub held_by : Session → List ℕ → Option (List ℕ) → Option (List ℕ)
held_by s p None = None
held_by s p (Some n) =
    if is_among n s.breakpoints && not (is_among p s.released) then Some n else None

-- the breakpoint at which the branch at a place pauses: it is about to enter that state, and isn't
-- released
abbrev pub breakpoint_at : Session → List ℕ → Option (List ℕ)
breakpoint_at s p = held_by s p (entering_of (record_at p (world_in s).branches))

-- the breakpoint that keeps it from a step at a moment: none where the execution's time is over,
-- since the step then is of no branch
abbrev pub pause_at : Session → StepAt → Option (List ℕ)
pause_at s a =
    if is_late (max (world_in s).last a.moment) (world_in s).deadline then None
    else breakpoint_at s a.place

-- ---- what is replied

abbrev pub reply_to_step : Option Refusal → Option (List ℕ) → Reply
reply_to_step (Some r) o = Refused r
reply_to_step None (Some n) = Paused n
reply_to_step None None = Stepped

abbrev pub shown_or_none : Option Record → Reply
shown_or_none None = NoSuchPlace
shown_or_none (Some r) = Shown r

abbrev pub reply_to : Session → Command → Reply
reply_to s (Step a) =
    reply_to_step (refusal_in s.setup (world_in s) a.place a.moment) (pause_at s a)
reply_to s (Break n) = if is_some (state_object n s.setup.machine) then Set else NoSuchState
reply_to s (Clear n) = if is_among n s.breakpoints then Cleared else NoSuchState
reply_to s (Resume p) = if is_some (breakpoint_at s p) then Resumed else NotPaused
reply_to s (Show p) = shown_or_none (record_at p (world_in s).branches)
reply_to s (Back n) =
    if nat_le n (length s.steps) then WentBack (length s.steps - n) else TooFar

-- ---- what is changed, as the reply tells

abbrev pub changed : Session → Command → Reply → Session
changed s (Step a) Stepped = record s {
  steps = s.steps ++ a ∷ [];
  released = left_by a.place s.released;
}
changed s (Break n) Set = record s { breakpoints = with_one n s.breakpoints }
changed s (Clear n) Cleared = record s { breakpoints = without n s.breakpoints }
changed s (Resume p) Resumed = record s { released = s.released ++ p ∷ [] }
changed s (Back n) (WentBack left) = record s { steps = take left s.steps; released = [] }
changed s c r = s

-- the session after a command
abbrev pub next_session : Session → Command → Session
next_session s c = changed s c (reply_to s c)

-- the session after commands
abbrev pub session_after : Session → List Command → Session
session_after s [] = s
session_after s (c ∷ cs) = session_after (next_session s c) cs
