-- The transitions that a run takes.
use Rattle.std.specs.Prelude.{ℕ, Bool, true, false, max, List, [], ◌∷◌, ◌++◌, if◌then◌else◌, Option, Some, None}
use Rattle.asl_graph.specs.declared.edges.Edge.{Edge}
use Rattle.asl_graph.specs.declared.edges.Way.{Way}
use Rattle.asl_graph.specs.declared.edges.Way.TheVariants as way
use Rattle.asl_graph.specs.Edges.{is_taken}
use Rattle.asl_step.specs.declared.facts.Facts.{Facts}
use Rattle.asl_step.specs.declared.record.Record.{Record}
use Rattle.asl_step.specs.declared.record.Record.TheVariants.{New, Ready}
use Rattle.asl_step.specs.Records.{name_in}
use Rattle.asl_run_branches.specs.Branches.{record_at}
use Rattle.asl_run_input.specs.declared.setup.Setup.{Setup}
use Rattle.asl_run_input.specs.declared.step_at.StepAt.{StepAt}
use Rattle.asl_run_state.specs.World.{World, is_late}
use Rattle.asl_run_state.specs.declared.refusal.Refusal.{Refusal}
use Rattle.asl_exec.specs.Steps.{refusal_in, step}
use Rattle.asl_trace.specs.declared.deciding.Deciding.{Deciding}
use Rattle.asl_trace.specs.declared.deciding.Deciding.TheVariants as by
use Rattle.asl_trace.specs.Deciding.{deciding_at}

-- these transitions, and that one, each once
abbrev pub with_edge : List Edge → List ℕ → Way → List Edge
with_edge es n w = if is_taken es n w then es else es ++ record { state = n; way = w } ∷ []

-- ---- what a step takes

-- the way from a state that what decides goes, where it goes on
abbrev pub way_of : Deciding → Option Way
way_of by.Nothing = None
way_of by.Next = Some way.Next
way_of (by.Rule i) = Some (way.Rule i)
way_of by.Default = Some way.Default
way_of (by.Retrier i) = None
way_of (by.Catcher i) = Some (way.Catcher i)

-- a branch is about to enter a state, which another one led to
abbrev pub is_ready : Option Record → Bool
is_ready (Some (Ready n x)) = true
is_ready o = false

-- of a branch that steps, and was doing this: the way into a state that it was about to enter
abbrev pub with_entry : List Edge → Record → List Edge
with_entry es (New n x) = with_edge es n way.Start
with_entry es (Ready n x) = with_edge es n way.Start
with_entry es _ = es

-- and the way from its state, where it is about to enter the next one behind the step
abbrev pub with_exit : List Edge → List ℕ → Option Way → Bool → List Edge
with_exit es n (Some w) true = with_edge es n w
with_exit es n (Some w) false = es
with_exit es n None b = es

abbrev pub with_both : List Edge → Record → Deciding → Option Record → List Edge
with_both es r d o = with_exit (with_entry es r) (name_in r) (way_of d) (is_ready o)

-- where the step isn't refused, and a branch is there
abbrev pub with_taken : List Edge → Option Refusal → Option Record → Deciding → Option Record
    → List Edge
with_taken es (Some e) r d o = es
with_taken es None None d o = es
with_taken es None (Some r) d o = with_both es r d o

-- what the branch at a place is doing, where the time of the execution isn't over
abbrev pub doing_at : World → List ℕ → ℕ → Option Record
doing_at w p t =
    if is_late (max w.last t) w.deadline then None else record_at p w.branches

-- those of a step at a place, handed this moment, by the facts f
abbrev pub with_step : List Edge → Facts → Setup → World → List ℕ → ℕ → List Edge
with_step es f s w p t =
    with_taken es (refusal_in s w p t) (doing_at w p t) (deciding_at f s w p t)
    (record_at p (step s w p t).branches)

-- ---- what steps take

-- these transitions, and those of these steps, from this world on
abbrev pub with_steps : List Edge → Facts → Setup → World → List StepAt → List Edge
with_steps es f s w [] = es
with_steps es f s w (a ∷ left) =
    with_steps (with_step es f s w a.place a.moment) f s (step s w a.place a.moment) left
