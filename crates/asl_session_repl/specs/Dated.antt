-- When the steps are taken that a line names.
use Rattle.std.specs.Prelude.{ℕ, ◌+◌, List, min, Option, Some, None}
use Rattle.asl_run_state.specs.Picking.{awaited_by}
use Rattle.asl_run_input.specs.declared.step_at.StepAt.{StepAt}
use Rattle.asl_exec.specs.Steps.{refusal_in, deadline_of}
use Rattle.asl_session.specs.Sessions.{Session, world_in}
use Rattle.asl_session_repl.specs.declared.timed.When.{When}
use Rattle.asl_session_repl.specs.declared.timed.When.TheVariants.{At, After, Since}
use Rattle.asl_session_repl.specs.declared.timed.Timed.{Timed}

-- the last moment of the year 9999
unfoldable pub last_moment : ℕ
last_moment = 253_402_300_799_999

-- ---- a moment that is named

-- a span begins at the last moment of the execution, and a time at its start; none leads past the
-- last moment of all
abbrev pub moment_of : Session → When → ℕ
moment_of s (At m) = m
moment_of s (After n) = min ((world_in s).last + n) last_moment
moment_of s (Since n) = min (s.setup.start + n) last_moment

abbrev pub dated : Session → Timed → StepAt
dated s a = record { place = a.place; moment = moment_of s a.when }

-- ---- a moment that isn't named

abbrev pub no_later : ℕ → Option ℕ → ℕ
no_later m None = m
no_later m (Some d) = min m d

-- the last moment; or the one that is waited for, unless the time of the execution is over before
abbrev pub earliest_by : ℕ → Option ℕ → Option ℕ → ℕ
earliest_by last deadline None = last
earliest_by last deadline (Some until) = no_later until deadline

-- the earliest moment at which the branch at a place may step
abbrev pub earliest : Session → List ℕ → ℕ
earliest s p =
    earliest_by (world_in s).last (deadline_of s.setup)
    (awaited_by (refusal_in s.setup (world_in s) p (world_in s).last))

abbrev pub moment_or : Session → List ℕ → Option When → ℕ
moment_or s p None = earliest s p
moment_or s p (Some w) = moment_of s w

-- the step at a place, at the moment that is named, or as early as it may be
abbrev pub dated_step : Session → List ℕ → Option When → StepAt
dated_step s p w = record { place = p; moment = moment_or s p w }
