-- What a worker does in a turn, and what it adds to a seat.
use Rattle.std.specs.Prelude.{ℕ, ◌≡◌, ◌≤◌, ◌⊎◌, List, ◌++◌, length, Bool, true, false, nat_lt, if◌then◌else◌, Option, Some, None}
use Rattle.std.specs.List.{AllPass, AllZip}
use Rattle.asl_run_branches.specs.Turns.{Limits}
use Rattle.asl_run_state.specs.World.{World}
use Rattle.asl_run_state.specs.Picking.{Pick, Ended, Filled, Place, Moment, pick, first_at}
use Rattle.asl_run_input.specs.declared.setup.Setup.{Setup}
use Rattle.asl_exec.specs.Steps.{limits_in}
use Rattle.asl_session.specs.Sessions.{world_in, reply_to}
use Rattle.asl_session.specs.Laws.{is_step}
use Rattle.asl_session.specs.declared.command.Command.{Command}
use Rattle.asl_session.specs.declared.command.Command.TheVariants.{Step}
use Rattle.asl_threads.specs.declared.driving.Due.{Due}
use Rattle.asl_threads.specs.declared.driving.Due.TheVariants as answers
use Rattle.asl_threads.specs.declared.seat.Entry.{Entry}
use Rattle.asl_threads.specs.Runs.{SharedView, SeatView, session_of, with_row, with_entry}

-- ---- whether a step is due

-- no step is due ever again; none at this moment; or one is, at a place
pub data DueAt : Type 0 where
  Never : DueAt
  Later : DueAt
  Now : (p : List ℕ) → DueAt

abbrev pub due_at : Option (List ℕ) → DueAt
due_at None = Later
due_at (Some p) = Now p

-- where a moment is awaited: once it has come, at the first place that isn't refused then
abbrev pub due_by : Limits → World → ℕ → Pick → DueAt
due_by limits w now Ended = Never
due_by limits w now Filled = Never
due_by limits w now (Place p) = Now p
due_by limits w now (Moment t) = if nat_lt now t then Later else due_at (first_at limits w t)

-- at a moment, by what comes next
abbrev pub due_in : Setup → World → ℕ → DueAt
due_in s w now = due_by (limits_in s.machine) w now (pick (limits_in s.machine) w)

-- the answer of a call
abbrev pub due_of : Due → DueAt
due_of answers.Never = Never
due_of answers.Later = Later
due_of (answers.Now p) = Now p.now

-- ---- turns

-- nothing changed
pub record Stay (old new : SharedView) (seat seat' : SeatView) : Type 0 where
  pub shared_stays : new ≡ old
  pub seat_stays : seat' ≡ seat

-- the command was carried out once, for a seat of this run: a row more, and a command more in the
-- seat's list
pub record Tells (c : Command) (old new : SharedView) (seat seat' : SeatView) : Type 0 where
  pub own : old.label ≡ seat.label
  pub row : new ≡ with_row old seat.number c (reply_to (session_of old) c)
  pub entry : seat' ≡ with_entry seat c (reply_to (session_of old) c)

-- a step of a place at a moment
abbrev pub step_of : List ℕ → ℕ → Command
step_of p t = Step (record { place = p; moment = t })

abbrev pub TurnsBy : DueAt → ℕ → SharedView → SharedView → SeatView → SeatView → Bool → Type 0
TurnsBy Never now old new seat seat' last = (last ≡ true) × Stay old new seat seat'
TurnsBy Later now old new seat seat' last = (last ≡ false) × Stay old new seat seat'
TurnsBy (Now p) now old new seat seat' last =
    (last ≡ false)
    × (Stay old new seat seat' ⊎ Tells (step_of p now) old new seat seat')

-- a turn of a seat at a moment: the step that is due was applied, or the turn is spent; and whether
-- it was the last
abbrev pub IsTurn : ℕ → SharedView → SeatView → SharedView → SeatView → Bool → Type 0
IsTurn now old seat new seat' last =
    TurnsBy (due_in old.setup (world_in (session_of old)) now) now old new seat seat' last

-- such a turn of a seat at a moment that the clock says, on what then lies behind the lock
abbrev pub Turned : (ℕ → Type 0) → SeatView → SeatView → Bool → Type 0
Turned says seat seat' last =
    (now : ℕ) × says now × (old : SharedView) × (new : SharedView) × IsTurn now old seat new seat' last

-- ---- what turns add to seats

-- the seat's list is the one before, followed by at most so many steps with their replies
pub record Grows (turns : ℕ) (old new : SeatView) : Type 0 where
  pub label : new.label ≡ old.label
  pub number : new.number ≡ old.number
  pub more : List Entry
  pub list : new.list ≡ old.list ++ more
  pub few : length more ≤ turns
  pub steps : AllPass (λ e. is_step e.command) more

-- each seat is there, in its place
abbrev pub AllGrow : ℕ → List SeatView → List SeatView → Type 0
AllGrow turns old new = AllZip (Grows turns) old new
