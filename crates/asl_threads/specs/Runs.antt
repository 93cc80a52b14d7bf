-- Runs that threads share: the rows, one for each command, and which lists of rows are legal.
use Rattle.std.specs.Prelude.{◌≡◌, ℕ, List, [], ◌∷◌, ◌++◌, ◌==◌, ⊤, map, if◌then◌else◌}
use Rattle.asl_run_input.specs.declared.setup.Setup.{Setup}
use Rattle.asl_session.specs.Sessions.{Session, opened, reply_to, next_session, session_after}
use Rattle.asl_session.specs.declared.command.Command.{Command}
use Rattle.asl_session.specs.declared.reply.Reply.{Reply}
use Rattle.asl_threads.specs.declared.row.Row.{Row}
use Rattle.asl_threads.specs.declared.seat.Entry.{Entry}

-- each row has the reply that the session gives after the commands of the rows before it
abbrev pub IsLegal : Session → List Row → Type 0
IsLegal s [] = ⊤
IsLegal s (r ∷ rs) = (r.reply ≡ reply_to s r.command) × IsLegal (next_session s r.command) rs

abbrev pub commands_of : List Row → List Command
commands_of rows = map (λ r. r.command) rows

-- the session after the commands of the rows
abbrev pub replayed : Setup → List Row → Session
replayed setup rows = session_after (opened setup) (commands_of rows)

-- the rows are legal for a session that begins with the setup, and lead to this session
pub record IsReplay (setup : Setup) (rows : List Row) (session : Session) : Type 0 where
  pub legal : IsLegal (opened setup) rows
  pub session_is : session ≡ replayed setup rows

-- ---- what lies behind a run's lock

-- the run's label, what its session began with, and the rows
pub record SharedView : Type 0 where
  pub label : ℕ
  pub setup : Setup
  pub rows : List Row

-- its session is the one after the commands of the rows
abbrev pub session_of : SharedView → Session
session_of shared = replayed shared.setup shared.rows

-- one row more
abbrev pub with_row : SharedView → ℕ → Command → Reply → SharedView
with_row shared number c r = record {
  label = shared.label;
  setup = shared.setup;
  rows = shared.rows ++ record { seat = number; command = c; reply = r } ∷ [];
}

-- ---- seats

-- the label of the seat's run, its number, and its commands with their replies
pub record SeatView : Type 0 where
  pub label : ℕ
  pub number : ℕ
  pub list : List Entry

-- a seat from which no command was given
abbrev pub fresh : ℕ → ℕ → SeatView
fresh label number = record { label = label; number = number; list = [] }

-- one command more, with its reply
abbrev pub with_entry : SeatView → Command → Reply → SeatView
with_entry s c r = record {
  label = s.label;
  number = s.number;
  list = s.list ++ record { command = c; reply = r } ∷ [];
}

abbrev pub entry_of : Row → Entry
entry_of r = record { command = r.command; reply = r.reply }

-- the commands and replies of a seat's number, in the order of the rows
abbrev pub rows_of : ℕ → List Row → List Entry
rows_of number [] = []
rows_of number (r ∷ rs) =
    if r.seat == number then entry_of r ∷ rows_of number rs else rows_of number rs
