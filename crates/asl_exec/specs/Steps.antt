-- The steps of an execution: the world that each leaves.
use Rattle.std.specs.Prelude.{ℕ, Bool, false, List, [], ◌∷◌, max, if◌then◌else◌, is_none, Option, Some, None, option_map, codes, unwrap_or}
use Rattle.std.specs.Option.{option_and_then}
use Rattle.asl_json_data.specs.Data.{Data}
use Rattle.asl_json.specs.Meaning.{value_in}
use Rattle.asl_def.specs.Machines.{state_object, state_number, state_count}
use Rattle.asl_step.specs.declared.effect.Effect.{Effect}
use Rattle.asl_step.specs.declared.record.Record.{Record}
use Rattle.asl_step.specs.declared.facts.Facts.{Facts}
use Rattle.asl_step.specs.Rows.{idle}
use Rattle.asl_step.specs.Seen.{Seen}
use Rattle.asl_kinds.specs.Table.{state_effect, invokes, slots}
use Rattle.asl_kinds.specs.Forks.{start_in}
use Rattle.asl_kinds.specs.Members.{later}
use Rattle.asl_def_fields.specs.Retries.{whole_in}
use Rattle.asl_mock.specs.Answers.{Case}
use Rattle.asl_step.specs.Records.{state_in}
use Rattle.asl_run_branches.specs.Branches.{record_at, children_at, forker_at, iteration_at}
use Rattle.asl_run_branches.specs.Turns.{Limits}
use Rattle.asl_run_state.specs.World.{World, count_of, is_late, world_with, timed_out}
use Rattle.asl_run_state.specs.declared.refusal.Refusal.{Refusal}
use Rattle.asl_run_state.specs.Refusals.{opening_at}
use Rattle.asl_run_state.specs.Picking.{refusal_with}
use Rattle.asl_run_input.specs.declared.setup.Setup.{Setup}
use Rattle.asl_run_input.specs.declared.step_at.StepAt.{StepAt}

-- what stays the same as an execution goes on
abbrev pub facts_of : Setup → Facts
facts_of s = record { machine = s.name_of_machine; name = s.name; input = s.input; start = s.start }

-- ---- what a step does, in the machine of this definition

-- the number of the state that a branch is in
abbrev pub number_in : Data → Record → Option ℕ
number_in d r = option_and_then (λ n. state_number n d) (state_in r)

-- the object of the state that a branch is in
abbrev pub object_in : Data → Record → Option Data
object_in d r = option_and_then (λ n. state_object n d) (state_in r)

-- whether the state of this object invokes a service
abbrev pub invokes_by : Option Data → Bool
invokes_by None = false
invokes_by (Some o) = invokes o

-- how many iterations the Map of a name runs at once; 0 where there is no limit, or no Map
abbrev pub limits_in : Data → Limits
limits_in d name = unwrap_or (option_map slots (state_object name d)) 0

-- what a step may read
abbrev pub seen_at : Data → Case → World → List ℕ → ℕ → Record → Seen
seen_at d cs w p now r = record {
  place = p;
  current = r;
  children = children_at p w.branches;
  forker = forker_at p w.branches;
  iteration = iteration_at p w.branches;
  invokes = invokes_by (object_in d r);
  count = count_of w.counts (number_in d r);
  case = cs;
  moment = now;
}

-- what the state of this object does; nothing, where there is none
abbrev pub effect_by : Option Data → Facts → Seen → Effect
effect_by None f v = idle v.current
effect_by (Some o) f v = state_effect o f v

abbrev pub effect_in : Data → Facts → Seen → Effect
effect_in d f v = effect_by (object_in d v.current) f v

abbrev pub moved_on : Setup → World → List ℕ → ℕ → Option Record → World
moved_on s w p now None = w
moved_on s w p now (Some r) =
    world_with p (number_in s.machine r) now
    (effect_in s.machine (facts_of s) (seen_at s.machine s.case w p now r)) w

-- the world after a step at a place at this moment: where the execution's time is over, it ends
abbrev pub stepped : Setup → World → List ℕ → ℕ → World
stepped s w p now =
    if is_late now w.deadline then timed_out now w else moved_on s w p now (record_at p w.branches)

-- why a step at a place, handed this moment, is refused
abbrev pub refusal_in : Setup → World → List ℕ → ℕ → Option Refusal
refusal_in s w p t = refusal_with (limits_in s.machine) w p t

-- the world after a step at a place, handed this moment: its moment is the greater of this and the
-- last one; a refused step
-- changes nothing
unfoldable pub step : Setup → World → List ℕ → ℕ → World
step s w p t = if is_none (refusal_in s w p t) then stepped s w p (max w.last t) else w

-- ---- runs

-- the moment at which the time of an execution is over, where its machine has a time limit (ASL,
-- "Top-level fields": TimeoutSeconds)
abbrev pub deadline_of : Setup → Option ℕ
deadline_of s = option_map (later s.start) (whole_in (value_in (codes "TimeoutSeconds") s.machine))

abbrev pub opening : Setup → World
opening s = opening_at (state_count s.machine) (start_in s.machine) s.input s.start (deadline_of s)

-- the world after these steps
abbrev pub world_after : Setup → World → List StepAt → World
world_after s w [] = w
world_after s w (a ∷ left) = world_after s (step s w a.place a.moment) left
