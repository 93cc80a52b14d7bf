-- Going on: the steps that come next, one after another.
use Rattle.std.specs.Prelude.{ℕ, zero, suc, Bool, true, false, ◌&&◌, nat_le, if◌then◌else◌, List, [], ◌∷◌, ◌++◌, Option, Some, None, codes}
use Rattle.asl_time.specs.StampText.{stamp_of}
use Rattle.asl_history.specs.Places.{place_text}
use Rattle.asl_run_state.specs.World.{World, is_over}
use Rattle.asl_run_input.specs.declared.step_at.StepAt.{StepAt}
use Rattle.asl_exec.specs.Driving.{Chosen, chosen}
use Rattle.asl_session.specs.Sessions.{Session, world_in, reply_to, next_session}
use Rattle.asl_session.specs.ReplyLines.{answer_line}
use Rattle.asl_session.specs.declared.command.Command.TheVariants as command
use Rattle.asl_session.specs.declared.reply.Reply.{Reply}
use Rattle.asl_session.specs.declared.reply.Reply.TheVariants.{Stepped}
use Rattle.asl_session_repl.specs.Failing.{fails}
use Rattle.asl_session_repl.specs.declared.onward.Onward.{Onward}
use Rattle.asl_session_repl.specs.declared.onward.Onward.TheVariants.{Over, Full, Later, Step}

-- ---- the step that comes next

abbrev pub onward_by : ℕ → World → Option Chosen → Onward
onward_by until w None = if is_over w.outcome then Over else Full
onward_by until w (Some x) =
    if nat_le x.1 until then Step (record { place = x.0; moment = x.1 }) else Later x.1

-- the step that comes next, unless it is later than this
abbrev pub onward_of : ℕ → Session → Onward
onward_of until s = onward_by until (world_in s) (chosen s.setup (world_in s))

-- ---- a move: that step is taken, unless its branch pauses

abbrev pub is_stepped : Reply → Bool
is_stepped Stepped = true
is_stepped r = false

abbrev pub moved_by : Session → Onward → Session
moved_by s (Step a) = next_session s (command.Step a)
moved_by s o = s

-- the session after the move
abbrev pub moved : ℕ → Session → Session
moved until s = moved_by s (onward_of until s)

-- where that is wanted, moves stop behind a step in which something fails
abbrev pub is_halt : Bool → Session → StepAt → Bool
is_halt h s a = h && (is_stepped (reply_to s (command.Step a)) && fails s a)

abbrev pub goes_on_by : Bool → Session → Onward → Bool
goes_on_by h s (Step a) =
    if is_halt h s a then false else is_stepped (reply_to s (command.Step a))
goes_on_by h s o = false

-- whether another move may follow
abbrev pub goes_on : Bool → ℕ → Session → Bool
goes_on h until s = goes_on_by h s (onward_of until s)

-- ---- what is told of it

-- the step as a script has it, and the reply
abbrev pub step_line : StepAt → Reply → List ℕ
step_line a r =
    codes "step " ++ (place_text a.place ++ 32 ∷ (stamp_of a.moment ++ 32 ∷ answer_line r))

-- why there is no step
abbrev pub rest_line : Onward → List ℕ
rest_line Over = codes "the execution is over" ++ 10 ∷ []
rest_line Full = codes "the history is full" ++ 10 ∷ []
rest_line (Later t) = codes "the next step is at " ++ (stamp_of t ++ 10 ∷ [])
rest_line (Step a) = []

-- behind the line of a step at which moves stop, why they do
abbrev pub halted : Bool → List ℕ → List ℕ
halted true line = line ++ (codes "something failed" ++ 10 ∷ [])
halted false line = line

abbrev pub move_line_by : Bool → Session → Onward → List ℕ
move_line_by h s (Step a) =
    halted (is_halt h s a) (step_line a (reply_to s (command.Step a)))
move_line_by h s o = rest_line o

abbrev pub move_line : Bool → ℕ → Session → List ℕ
move_line h until s = move_line_by h s (onward_of until s)

-- ---- moves

-- the session after at most so many moves
abbrev pub gone : Bool → ℕ → ℕ → Session → Session
gone h zero until s = s
gone h (suc n) until s =
    if goes_on h until s then gone h n until (moved until s) else moved until s

-- a line for each
abbrev pub gone_lines : Bool → ℕ → ℕ → Session → List ℕ
gone_lines h zero until s = []
gone_lines h (suc n) until s =
    move_line h until s ++ (if goes_on h until s then gone_lines h n until (moved until s) else [])

-- the branch that steps next goes on, where it pauses
abbrev pub freed_by : Session → Onward → Session
freed_by s (Step a) = next_session s (command.Resume a.place)
freed_by s o = s

abbrev pub freed : ℕ → Session → Session
freed until s = freed_by s (onward_of until s)
