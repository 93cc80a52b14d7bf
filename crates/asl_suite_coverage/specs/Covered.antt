-- What a run covers, by its steps.
use Rattle.std.specs.Prelude.{ℕ, zero, suc, Bool, true, false, List, [], ◌∷◌, ◌++◌, length, drop, if◌then◌else◌, Option, Some, None}
use Rattle.std.specs.List.{flat_map, list_any}
use Rattle.asl_json_data.specs.Data.{Data}
use Rattle.asl_history.specs.declared.event.Event.{Event}
use Rattle.asl_history.specs.declared.kind.EventKind.{EventKind}
use Rattle.asl_history.specs.declared.kind.EventKind.TheVariants.{TaskScheduled}
use Rattle.asl_history.specs.Kinds.{is_entered, is_exited}
use Rattle.asl_step.specs.declared.facts.Facts.{Facts}
use Rattle.asl_step.specs.declared.record.Record.{Record}
use Rattle.asl_step.specs.Records.{name_in}
use Rattle.asl_run_branches.specs.Branches.{record_at}
use Rattle.asl_run_input.specs.declared.setup.Setup.{Setup}
use Rattle.asl_run_input.specs.declared.step_at.StepAt.{StepAt}
use Rattle.asl_run_state.specs.World.{World, count_of}
use Rattle.asl_run_state.specs.declared.refusal.Refusal.{Refusal}
use Rattle.asl_exec.specs.Steps.{facts_of, number_in, opening, refusal_in, step}
use Rattle.asl_exec.specs.Driving.{Chosen, chosen, after, most_steps}
use Rattle.asl_trace.specs.declared.deciding.Deciding.{Deciding}
use Rattle.asl_trace.specs.declared.deciding.Deciding.TheVariants as by
use Rattle.asl_trace.specs.Deciding.{deciding_at}
use Rattle.asl_suite_coverage.specs.declared.spot.Part.{Part}
use Rattle.asl_suite_coverage.specs.declared.spot.Part.TheVariants.{State, Next, Rule, Default, Retrier, Catcher, Answer}
use Rattle.asl_suite_coverage.specs.declared.spot.Spot.{Spot}
use Rattle.asl_suite_coverage.specs.Spots.{spot, spot_if}
use Rattle.asl_suite_coverage.specs.Answers.{case_in, response_of, answer_of}

-- ---- what the events of a step cover, of a mock file and a case of it

abbrev pub answer_part : Option ℕ → Option Part
answer_part None = None
answer_part (Some i) = Some (Answer i)

-- the answer of a response to invocation number n
abbrev pub answer_spots : Data → ℕ → Option (List ℕ) → List Spot
answer_spots mocks n None = []
answer_spots mocks n (Some r) = spot_if r (answer_part (answer_of mocks r n))

abbrev pub is_scheduled : EventKind → Bool
is_scheduled TaskScheduled = true
is_scheduled k = false

-- the state that is entered, or the answer to the service that is invoked, which was invoked n times
-- before
abbrev pub event_spots : Data → Option Data → ℕ → Event → List Spot
event_spots mocks case n e =
    if is_entered e.kind then spot e.name State ∷ []
    else (if is_scheduled e.kind then answer_spots mocks n (response_of case e.name) else [])

abbrev pub events_spots : Data → Option Data → ℕ → List Event → List Spot
events_spots mocks case n es = flat_map (event_spots mocks case n) es

-- ---- what decided in a step

abbrev pub leaves : Event → Bool
leaves e = is_exited e.kind

-- of its state; `Next` only where the state is left
abbrev pub part_of : Deciding → Bool → Option Part
part_of by.Nothing left = None
part_of by.Next true = Some Next
part_of by.Next false = None
part_of (by.Rule i) left = Some (Rule i)
part_of by.Default left = Some Default
part_of (by.Retrier i) left = Some (Retrier i)
part_of (by.Catcher i) left = Some (Catcher i)

-- ---- a step

-- the state that the branch at a place is in; empty where there is none
abbrev pub name_by : Option Record → List ℕ
name_by None = []
name_by (Some r) = name_in r

abbrev pub name_at : World → List ℕ → List ℕ
name_at w p = name_by (record_at p w.branches)

-- how often that state was invoked
abbrev pub count_by : Data → World → Option Record → ℕ
count_by d w None = 0
count_by d w (Some r) = count_of w.counts (number_in d r)

abbrev pub count_at : Data → World → List ℕ → ℕ
count_at d w p = count_by d w (record_at p w.branches)

-- by these events of the step, by what decided in it, of a state of this name, which was invoked n
-- times before
abbrev pub taken_spots : Data → Option Data → List ℕ → ℕ → Deciding → List Event → List Spot
taken_spots mocks case name n d es =
    events_spots mocks case n es ++ spot_if name (part_of d (list_any leaves es))

-- the events of the world v behind those of the world w
abbrev pub told_behind : World → World → List Event
told_behind w v = drop (length w.events) v.events

-- a refused step covers nothing
abbrev pub spots_unless : Option Refusal → List Spot → List Spot
spots_unless None ss = ss
spots_unless (Some e) ss = []

-- what a step at a place covers, handed this moment, by the facts f
unfoldable pub step_spots : Data → Option Data → Facts → Setup → World → List ℕ → ℕ → List Spot
step_spots mocks case f s w p t =
    spots_unless (refusal_in s w p t)
    (taken_spots mocks case (name_at w p) (count_at s.machine w p) (deciding_at f s w p t)
    (told_behind w (step s w p t)))

-- ---- a run

-- of these steps, from this world on
abbrev pub steps_spots : Data → Option Data → Facts → Setup → World → List StepAt → List Spot
steps_spots mocks case f s w [] = []
steps_spots mocks case f s w (a ∷ left) =
    step_spots mocks case f s w a.place a.moment
    ++ steps_spots mocks case f s (step s w a.place a.moment) left

abbrev pub chosen_spots : Data → Option Data → Facts → Setup → World → Option Chosen → List Spot
chosen_spots mocks case f s w None = []
chosen_spots mocks case f s w (Some x) = step_spots mocks case f s w x.0 x.1

-- of those that come next, at most so many
abbrev pub driven_spots : Data → Option Data → Facts → ℕ → Setup → World → List Spot
driven_spots mocks case f zero s w = []
driven_spots mocks case f (suc n) s w =
    chosen_spots mocks case f s w (chosen s w)
    ++ driven_spots mocks case f n s (after s w (chosen s w))

-- of these; without them, of those that come next
abbrev pub spots_by : Data → Option Data → Facts → Setup → World → Option (List StepAt) → List Spot
spots_by mocks case f s w None = driven_spots mocks case f most_steps s w
spots_by mocks case f s w (Some ss) = steps_spots mocks case f s w ss

-- of the execution of a setup that takes these steps, in the case of this name
abbrev pub run_spots : Data → List ℕ → Setup → Option (List StepAt) → List Spot
run_spots mocks case s ss =
    spots_by mocks (case_in mocks s.name_of_machine case) (facts_of s) s (opening s) ss
