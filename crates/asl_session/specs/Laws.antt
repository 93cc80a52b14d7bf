-- Laws of sessions, over all commands.
use Rattle.std.specs.Prelude.{ℕ, ◌≡◌, Bool, true, false, ◌||◌, List, [], ◌∷◌, ◌++◌}
use Rattle.std.specs.List.{list_any}
use Rattle.asl_run_input.specs.declared.setup.Setup.{Setup}
use Rattle.asl_run_input.specs.declared.step_at.StepAt.{StepAt}
use Rattle.asl_exec.specs.Steps.{world_after}
use Rattle.asl_session.specs.Sessions.{Session, begun_at, restarted, opened, world_in, reply_to, next_session, session_after}
use Rattle.asl_session.specs.Replies.{is_plain}
use Rattle.asl_session.specs.Scripts.{answer_lines}
use Rattle.asl_session.specs.declared.command.Command.{Command}
use Rattle.asl_session.specs.declared.command.Command.TheVariants.{Step, Back}
use Rattle.asl_session.specs.declared.reply.Reply.{Reply}
use Rattle.asl_session.specs.declared.reply.Reply.TheVariants.{Paused}

abbrev pub is_step : Command → Bool
is_step (Step a) = true
is_step c = false

abbrev pub is_back : Command → Bool
is_back (Back n) = true
is_back c = false

-- breakpoints leave no trace: commands that are no steps and take none back leave the world
abbrev pub NoTrace : Type 0
NoTrace =
    (s : Session) (cs : List Command) → list_any (λ c. is_step c || is_back c) cs ≡ false
    → world_in (session_after s cs) ≡ world_in s

-- a step that no breakpoint kept, whether it was taken or refused
abbrev pub tried : Command → Reply → List StepAt
tried (Step a) (Paused n) = []
tried (Step a) r = a ∷ []
tried c r = []

-- those among these commands
abbrev pub unpaused : Session → List Command → List StepAt
unpaused s [] = []
unpaused s (c ∷ cs) = tried c (reply_to s c) ++ unpaused (next_session s c) cs

-- a run that is broken and goes on ends as the unbroken run of the same steps, whatever else it is
-- told in between, if it takes no step back
abbrev pub EndsUnbroken : Type 0
EndsUnbroken =
    (s : Session) (cs : List Command) → list_any is_back cs ≡ false
    → world_in (session_after s cs) ≡ world_after s.setup (world_in s) (unpaused s cs)

-- commands before the first step are answered alike whenever the execution starts, and lead to the
-- session that a later start makes
abbrev pub StartsLater : Type 0
StartsLater =
    (setup : Setup) (start : ℕ) (cs : List Command) → list_any is_step cs ≡ false
    → (answer_lines (opened (begun_at start setup)) cs ≡ answer_lines (opened setup) cs)
    × (session_after (opened (begun_at start setup)) cs
    ≡ restarted start (session_after (opened setup) cs))

-- a command whose reply takes memory to copy leaves the session as it is
abbrev pub UnplainStays : Type 0
UnplainStays =
    (s : Session) (c : Command) → is_plain (reply_to s c) ≡ false → next_session s c ≡ s
