-- What the debugger answers to a line, and what the line makes of its session.
use Rattle.std.specs.Prelude.{ℕ, ◌≡◌, Bool, true, false, ◌||◌, List, [], ◌∷◌, ◌++◌, Option, Some, None, is_none, codes}
use Rattle.asl_run_branches.specs.Branches.{record_at}
use Rattle.asl_run_input.specs.declared.setup.Setup.{Setup}
use Rattle.asl_run_input.specs.declared.step_at.StepAt.{StepAt}
use Rattle.asl_run_input.specs.StepsFile.{steps_file}
use Rattle.asl_exec.specs.Exchanges.{obstacle_to}
use Rattle.asl_exec.specs.ObstacleText.{obstacle_text}
use Rattle.asl_exec.specs.declared.obstacle.Obstacle.{Obstacle}
use Rattle.asl_session.specs.Sessions.{Session, opened, restarted, world_in, reply_to, next_session}
use Rattle.asl_session.specs.ReplyLines.{answer_line}
use Rattle.asl_session.specs.declared.command.Command.TheVariants as command
use Rattle.asl_session.specs.declared.reply.Reply.{Reply}
use Rattle.asl_session.specs.declared.reply.Reply.TheVariants.{Set, Cleared, Refused, Paused, NotPaused, NoSuchState, NoSuchPlace, TooFar}
use Rattle.asl_session_repl.specs.declared.request.Request.{Request}
use Rattle.asl_session_repl.specs.declared.request.Request.TheVariants.{Told, Halt, Step, Next, Continue, Until, Places, Data, Events, Steps, Swap, Help, Quit}
use Rattle.asl_session_repl.specs.declared.timed.When.{When}
use Rattle.asl_session_repl.specs.declared.timed.When.TheVariants.{At, After, Since}
use Rattle.asl_session_repl.specs.Words.{words, help_lines}
use Rattle.asl_session_repl.specs.Requests.{IsRequest, complaint}
use Rattle.asl_session_repl.specs.Dated.{last_moment, moment_of, dated, dated_step}
use Rattle.asl_session_repl.specs.Onward.{step_line, freed, gone, gone_lines}
use Rattle.asl_session_repl.specs.Views.{places_text, data_text, events_text}

-- a session; whether the moment at which its execution starts is settled; and whether steps are
-- stopped behind one in which something fails
pub record Console : Type 0 where
  pub session : Session
  pub settled : Bool
  pub halting : Bool

abbrev pub first_console : Setup → Console
first_console setup = record { session = opened setup; settled = false; halting = false }

-- ---- what a request does

-- so many steps are taken at most where none is the last one
unfoldable pub most_moves : ℕ
most_moves = 25_000

-- the steps that come next, at most so many and none later than this; the first passes its breakpoint
abbrev pub gone_on : Bool → ℕ → ℕ → Session → Session
gone_on h n until s = gone h n until (freed until s)

abbrev pub gone_on_text : Bool → ℕ → ℕ → Session → List ℕ
gone_on_text h n until s = gone_lines h n until (freed until s)

abbrev pub swap_line : Option Obstacle → List ℕ
swap_line None = codes "exchangeable" ++ 10 ∷ []
swap_line (Some o) = obstacle_text o ++ 10 ∷ []

-- whether two steps may change places, or the first reason why not
abbrev pub swap_text : Session → StepAt → StepAt → List ℕ
swap_text s a b = swap_line (obstacle_to s.setup (world_in s) a b)

-- the reply to a step, where its moment is given; else its line, which tells the moment
abbrev pub step_answer : Option When → StepAt → Reply → List ℕ
step_answer None a r = step_line a r
step_answer (Some (At m)) a r = answer_line r
step_answer (Some (After n)) a r = step_line a r
step_answer (Some (Since n)) a r = step_line a r

abbrev pub halt_answer : Bool → Reply
halt_answer true = Set
halt_answer false = Cleared

-- what is answered to it, where steps are stopped behind a failure or aren't
abbrev pub answer_to : Bool → Session → Request → List ℕ
answer_to h s (Told c) = answer_line (reply_to s c)
answer_to h s (Halt b) = answer_line (halt_answer b)
answer_to h s (Step p w) =
    step_answer w (dated_step s p w) (reply_to s (command.Step (dated_step s p w)))
answer_to h s (Next n) = gone_on_text h n last_moment s
answer_to h s Continue = gone_on_text h most_moves last_moment s
answer_to h s (Until w) = gone_on_text h most_moves (moment_of s w) s
answer_to h s Places = places_text s
answer_to h s (Data p) = data_text s p
answer_to h s (Events n) = events_text n s
answer_to h s Steps = steps_file s.steps
answer_to h s (Swap a b) = swap_text s (dated s a) (dated s b)
answer_to h s Help = help_lines words
answer_to h s Quit = []

-- the session behind it
abbrev pub after : Bool → Session → Request → Session
after h s (Told c) = next_session s c
after h s (Step p w) = next_session s (command.Step (dated_step s p w))
after h s (Next n) = gone_on h n last_moment s
after h s Continue = gone_on h most_moves last_moment s
after h s (Until w) = gone_on h most_moves (moment_of s w) s
after h s _ = s

abbrev pub is_quit : Request → Bool
is_quit Quit = true
is_quit r = false

-- ---- what isn't carried out

-- the reply to a command that wasn't
abbrev pub is_refusal : Reply → Bool
is_refusal (Refused r) = true
is_refusal (Paused n) = true
is_refusal NotPaused = true
is_refusal NoSuchState = true
is_refusal NoSuchPlace = true
is_refusal TooFar = true
is_refusal r = false

-- whether a request isn't; where no step comes next, nothing is refused
abbrev pub is_refused : Session → Request → Bool
is_refused s (Told c) = is_refusal (reply_to s c)
is_refused s (Step p w) = is_refusal (reply_to s (command.Step (dated_step s p w)))
is_refused s (Data p) = is_none (record_at p (world_in s).branches)
is_refused s r = false

-- ---- where an execution starts

-- the start is settled by the first request that takes steps
abbrev pub settles : Request → Bool
settles (Step p w) = true
settles (Next n) = true
settles Continue = true
settles (Until w) = true
settles r = false

-- before that, a step with a timestamp starts the execution at its moment
abbrev pub start_by : Option When → Option ℕ
start_by None = None
start_by (Some (At m)) = Some m
start_by (Some (After n)) = None
start_by (Some (Since n)) = None

abbrev pub start_in : Request → Option ℕ
start_in (Step p w) = start_by w
start_in r = None

abbrev pub started_at : Session → Option ℕ → Session
started_at s None = s
started_at s (Some m) = restarted m s

abbrev pub started_by : Session → Bool → Request → Session
started_by s true r = s
started_by s false r = started_at s (start_in r)

abbrev pub started : Console → Request → Session
started c r = started_by c.session c.settled r

-- ---- an answer

-- whether steps are stopped behind it
abbrev pub halts_behind : Bool → Request → Bool
halts_behind h (Halt b) = b
halts_behind h r = h

abbrev pub next_console : Console → Request → Console
next_console c r = record {
  session = after c.halting (started c r) r;
  settled = c.settled || settles r;
  halting = halts_behind c.halting r;
}

-- a line isn't carried out: it asks for nothing, or for what is refused
pub data IsRefusedLine (c : Console) (line : List ℕ) (refused : Bool) : Type 0 where
  Asks : (r : Request) → IsRequest line r → refused ≡ is_refused (started c r) r → IsRefusedLine c line refused
  AsksNothing : ((r : Request) → IsRequest line r → ⊥) → refused ≡ true → IsRefusedLine c line refused

-- a line was answered: what it asks for was done; or it asks for nothing, and what it could be was
-- told
pub data IsAnswer (c : Console) (line text : List ℕ) (quits : Bool) (d : Console) : Type 0 where
  Obeyed : (r : Request) → IsRequest line r → text ≡ answer_to c.halting (started c r) r
      → quits ≡ is_quit r → d ≡ next_console c r → IsAnswer c line text quits d
  Complained : ((r : Request) → IsRequest line r → ⊥) → text ≡ complaint line
      → quits ≡ false → d ≡ c → IsAnswer c line text quits d
