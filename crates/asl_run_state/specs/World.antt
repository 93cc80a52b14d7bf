-- The world of an execution, and what a step makes of it.
use Rattle.std.specs.Prelude.{ℕ, Bool, true, false, List, [], ◌∷◌, ◌++◌, ◌+◌, nat_le, if◌then◌else◌, Option, Some, None, slice_index, slice_set, codes}
use Rattle.asl_history.specs.declared.event.Event.{Event}
use Rattle.asl_history.specs.Events.{event_after}
use Rattle.asl_history.specs.declared.kind.EventKind.TheVariants.{ExecutionTimedOut}
use Rattle.asl_step.specs.declared.effect.Effect.{Effect}
use Rattle.asl_step.specs.declared.effect.Draft.{Draft}
use Rattle.asl_step.specs.declared.effect.Ended.{Ended}
use Rattle.asl_step.specs.declared.effect.Ended.TheVariants.{Succeeded as EndedWell, Failed as EndedBadly}
use Rattle.asl_step.specs.declared.record.ErrorOut.{ErrorOut}
use Rattle.asl_step.specs.Rows.{error_output}
use Rattle.asl_run_branches.specs.Branches.{Branch, branches_after}
use Rattle.asl_run_state.specs.declared.outcome.Outcome.{Outcome}
use Rattle.asl_run_state.specs.declared.outcome.Outcome.TheVariants.{Running, Succeeded, Failed as Lost, TimedOut}

-- the running branches in the order of their places; how often each state was invoked, by the
-- machine's list of states; what was
-- told; the last moment; the one at which its time is over, where it has a time limit; the outcome
pub record World : Type 0 where
  pub branches : List Branch
  pub counts : List ℕ
  pub events : List Event
  pub last : ℕ
  pub deadline : Option ℕ
  pub outcome : Outcome

-- ---- what is read of it

-- how often the state of a number was invoked
abbrev pub count_of : List ℕ → Option ℕ → ℕ
count_of counts None = 0
count_of counts (Some n) = slice_index counts n

abbrev pub is_over : Outcome → Bool
is_over Running = false
is_over _ = true

-- whether its time is over at this moment
abbrev pub is_late : ℕ → Option ℕ → Bool
is_late now None = false
is_late now (Some deadline) = nat_le deadline now

-- ---- what a step makes of it

-- the count of the state of this number is raised by one
abbrev pub raised : Option ℕ → List ℕ → List ℕ
raised None counts = counts
raised (Some n) counts = slice_set counts n (slice_index counts n + 1)

abbrev pub counts_after : Option ℕ → Bool → List ℕ → List ℕ
counts_after n raises counts = if raises then raised n counts else counts

-- events at a place, each behind those before it
abbrev pub events_after : List ℕ → ℕ → List Draft → List Event → List Event
events_after p now [] es = es
events_after p now (d ∷ ds) es =
    events_after p now ds (es ++ event_after es now d.kind p d.name d.body ∷ [])

abbrev pub outcome_after : Option Ended → Outcome → Outcome
outcome_after None o = o
outcome_after (Some (EndedWell x)) o = Succeeded x
outcome_after (Some (EndedBadly e)) o = Lost e

-- the world after this happened at the place p, in the state of number n
abbrev pub world_with : List ℕ → Option ℕ → ℕ → Effect → World → World
world_with p n now e w = record {
  branches = branches_after p e.after e.children w.branches;
  counts = counts_after n e.raises w.counts;
  events = events_after p now e.events w.events;
  last = now;
  deadline = w.deadline;
  outcome = outcome_after e.outcome w.outcome;
}

-- ---- what its time limit makes of it (ASL, "Top-level fields": TimeoutSeconds)

abbrev pub timeout_error : ErrorOut
timeout_error = record { error = Some (codes "States.Timeout"); cause = None }

-- the world after a step for which it is too late: the branches stay as they are
abbrev pub timed_out : ℕ → World → World
timed_out now w = record w {
  events = w.events
      ++ event_after w.events now ExecutionTimedOut [] [] (error_output timeout_error) ∷ [];
  last = now;
  outcome = TimedOut;
}
