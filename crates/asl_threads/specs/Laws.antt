-- Laws of shared runs, over all records.
use Rattle.std.specs.Prelude.{◌≡◌, Bool, true, false, List, [], ◌∷◌, ◌++◌, map, None}
use Rattle.std.specs.List.{list_any}
use Rattle.std.specs.Bool.{Decides}
use Rattle.asl_run_input.specs.declared.setup.Setup.{Setup}
use Rattle.asl_run_input.specs.declared.step_at.StepAt.{StepAt}
use Rattle.asl_history.specs.declared.event.Event.{Event}
use Rattle.asl_step.specs.declared.record.Record.{Record}
use Rattle.asl_step.specs.contracts.record.RecordPartialEq.TheImpl as records
use Rattle.asl_run_branches.specs.Branches.{record_at}
use Rattle.asl_run_state.specs.World.{World}
use Rattle.asl_exec.specs.Steps.{opening, step, world_after, refusal_in}
use Rattle.asl_session.specs.Sessions.{world_in, reply_to_step, shown_or_none}
use Rattle.asl_session.specs.declared.command.Command.{Command}
use Rattle.asl_session.specs.declared.command.Command.TheVariants.{Step, Break, Clear, Resume, Show, Back}
use Rattle.asl_session.specs.declared.reply.Reply.{Reply}
use Rattle.asl_session.specs.declared.reply.Reply.TheVariants.{Set, WentBack, NotPaused, NoSuchState, TooFar}
use Rattle.asl_session.specs.contracts.command.CommandPartialEq.TheImpl as commands
use Rattle.asl_session.specs.contracts.reply.ReplyPartialEq.TheImpl as replies
use Rattle.asl_threads.specs.declared.closing.RunRecord.{RunRecord}
use Rattle.asl_threads.specs.Runs.{SeatView, commands_of}
use Rattle.asl_threads.specs.Closing.{RunView}
use Rattle.asl_threads.specs.Answer.{IsRecordOf}

-- ---- one list of steps

-- a breakpoint was set, or something taken back
abbrev pub is_mark : Reply → Bool
is_mark Set = true
is_mark (WentBack left) = true
is_mark r = false

abbrev pub steps_in : List Command → List StepAt
steps_in [] = []
steps_in (Step a ∷ cs) = a ∷ steps_in cs
steps_in (c ∷ cs) = steps_in cs

-- what a command is replied in a world, where no breakpoint is set: a step, that it was taken, or
-- why it is refused
abbrev pub reply_in : Setup → World → Command → Reply
reply_in s w (Step a) = reply_to_step (refusal_in s w a.place a.moment) None
reply_in s w (Show p) = shown_or_none (record_at p w.branches)
reply_in s w (Resume p) = NotPaused
reply_in s w (Break n) = NoSuchState
reply_in s w (Clear n) = NoSuchState
reply_in s w (Back n) = TooFar

-- the world behind it: a step alone changes anything
abbrev pub moved_by : Setup → World → Command → World
moved_by s w (Step a) = step s w a.place a.moment
moved_by s w c = w

-- the replies to commands, one after another
abbrev pub replies_in : Setup → World → List Command → List Reply
replies_in s w [] = []
replies_in s w (c ∷ cs) = reply_in s w c ∷ replies_in s (moved_by s w c) cs

-- a run that was closed, if no breakpoint was set and nothing taken back, is the run of one list of
-- steps: each reply is the one in the world of the steps before it, and the session's world is that
-- of all steps. (`IsRecordOf`: the commands of each seat stand in the list once, in its order.)
abbrev pub StepsAreOneList : Type 0
StepsAreOneList =
    (run : RunView) (seats : List SeatView) (r : RunRecord)
    → IsRecordOf run seats r → list_any (λ q. is_mark q.reply) r.rows.items ≡ false
    → (map (λ q. q.reply) r.rows.items
    ≡ replies_in run.setup (opening run.setup) (commands_of r.rows.items))
    × (world_in r.session
    ≡ world_after run.setup (opening run.setup) (steps_in (commands_of r.rows.items)))

-- ---- events

-- steps put events behind those that were told, and take none back
abbrev pub StepsOnlyAdd : Type 0
StepsOnlyAdd =
    (s : Setup) (w : World) (steps : List StepAt)
    → (more : List Event) × ((world_after s w steps).events ≡ w.events ++ more)

-- ---- what `==` says

abbrev pub CommandsAreCompared : Type 0
CommandsAreCompared = (a b : Command) → Decides ((commands.ghosts).eq a b) (a ≡ b)

abbrev pub RepliesAreCompared : Type 0
RepliesAreCompared = (a b : Reply) → Decides ((replies.ghosts).eq a b) (a ≡ b)

abbrev pub RecordsAreCompared : Type 0
RecordsAreCompared = (a b : Record) → Decides ((records.ghosts).eq a b) (a ≡ b)
