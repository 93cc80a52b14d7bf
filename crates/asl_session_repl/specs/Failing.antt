-- What fails in a step.
use Rattle.std.specs.Prelude.{ℕ, Bool, true, false, ◌||◌, List, Option, Some, None}
use Rattle.asl_step.specs.declared.record.Record.{Record}
use Rattle.asl_step.specs.declared.record.Record.TheVariants.{Failed}
use Rattle.asl_run_branches.specs.Branches.{record_at}
use Rattle.asl_run_input.specs.declared.step_at.StepAt.{StepAt}
use Rattle.asl_run_state.specs.World.{World}
use Rattle.asl_run_state.specs.declared.outcome.Outcome.{Outcome}
use Rattle.asl_run_state.specs.declared.outcome.Outcome.TheVariants.{TimedOut}
use Rattle.asl_exec.specs.Steps.{facts_of}
use Rattle.asl_trace.specs.Deciding.{deciding_at}
use Rattle.asl_trace.specs.declared.deciding.Deciding.{Deciding}
use Rattle.asl_trace.specs.declared.deciding.Deciding.TheVariants.{Retrier, Catcher}
use Rattle.asl_session.specs.Sessions.{Session, world_in, next_session}
use Rattle.asl_session.specs.declared.command.Command.TheVariants.{Step}

-- an error was raised, which a retrier or a catcher handles
abbrev pub is_handled : Deciding → Bool
is_handled (Retrier i) = true
is_handled (Catcher i) = true
is_handled d = false

abbrev pub handles_error : Session → StepAt → Bool
handles_error s a =
    is_handled (deciding_at (facts_of s.setup) s.setup (world_in s) a.place a.moment)

-- the branch has failed
abbrev pub is_failed : Record → Bool
is_failed (Failed e) = true
is_failed r = false

abbrev pub has_failed : Option Record → Bool
has_failed None = false
has_failed (Some r) = is_failed r

abbrev pub is_timed_out : Outcome → Bool
is_timed_out TimedOut = true
is_timed_out o = false

-- the branch at a place has failed, or the time of the execution is over
abbrev pub ends_badly : World → List ℕ → Bool
ends_badly w p = has_failed (record_at p w.branches) || is_timed_out w.outcome

-- in a step something fails: an invocation, a state or the execution
abbrev pub fails : Session → StepAt → Bool
fails s a = handles_error s a || ends_badly (world_in (next_session s (Step a))) a.place
