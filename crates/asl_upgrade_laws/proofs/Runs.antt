-- The runs of a machine in the newer spelling are those of the machine before.
use mathlib.Core.Path.{fun_ext}
use Rattle.std.proofs.Common.{◌≡◌, ℕ, zero, suc, ◌+◌, List, [], ◌∷◌, ◌++◌, max, refl, ap, ◌∙◌}
use Rattle.std.specs.Prelude.{Option, Some, None, is_none, is_some, option_map, if◌then◌else◌, unwrap_or}
use Rattle.std.specs.Option.{option_and_then}
use Rattle.asl_json_data.specs.Data.{Data}
use Rattle.asl_def_schema.specs.declared.sort.Sort.TheVariants as sort
use Rattle.asl_def_schema.specs.Clean.{IsClean}
use Rattle.asl_def_schema.specs.Faults.{Accepted}
use Rattle.asl_def_fields.specs.Retries.{whole_in}
use Rattle.asl_mock.specs.Answers.{Case}
use Rattle.asl_def_shared.specs.Texts.{text_in}
use Rattle.asl_step.specs.declared.facts.Facts.{Facts}
use Rattle.asl_step.specs.declared.record.Record.{Record}
use Rattle.asl_step.specs.Records.{state_in}
use Rattle.asl_step.specs.Seen.{Seen}
use Rattle.asl_kinds.specs.Members.{later}
use Rattle.asl_kinds.specs.Table.{slots}
use Rattle.asl_def.specs.Machines.{state_object, state_number}
use Rattle.asl_def.specs.Upgraded.{newer_value, upgraded}
use Rattle.asl_def.proofs.NewerStates.{count_upgraded, object_upgraded, number_upgraded, start_upgraded, timeout_upgraded}
use Rattle.asl_run_branches.specs.Branches.{record_at, children_at, forker_at, iteration_at}
use Rattle.asl_run_branches.specs.Turns.{Limits}
use Rattle.asl_run_branches.specs.Trees.{one_if}
use Rattle.asl_run_state.specs.World.{World, count_of, is_late, timed_out, world_with}
use Rattle.asl_run_state.specs.Lines.{step_line, end_text}
use Rattle.asl_run_state.specs.Picking.{refusal_with, pick}
use Rattle.asl_run_state.specs.Refusals.{opening_at}
use Rattle.asl_run_input.specs.declared.setup.Setup.{Setup}
use Rattle.asl_run_input.specs.declared.step_at.StepAt.{StepAt}
use Rattle.asl_exec.specs.Steps.{facts_of, number_in, object_in, invokes_by, limits_in, seen_at, effect_by, effect_in, moved_on, stepped, refusal_in, step, deadline_of, opening, world_after}
use Rattle.asl_exec.specs.RunText.{step_lines}
use Rattle.asl_exec.specs.Driving.{Chosen, chosen_by, chosen, after, driven, driven_steps}
use Rattle.asl_upgrade_laws.specs.Laws.{upgraded_setup, UpgradedStepsAlike, UpgradedRunsAlike, UpgradedDrivesAlike}
use Rattle.asl_upgrade_laws.proofs.Clean.{object_clean}
use Rattle.asl_upgrade_laws.proofs.Effects.{state_does, state_invokes, state_slots}

-- ---- the state that a branch is in

named_object : (d : Data) (o : Option (List ℕ)) → option_and_then (λ n. state_object n (upgraded d)) o ≡ option_map (newer_value sort.State) (option_and_then (λ n. state_object n d) o)
named_object d None = refl
named_object d (Some n) = object_upgraded n d

object_newer : (d : Data) (r : Record) → object_in (upgraded d) r ≡ option_map (newer_value sort.State) (object_in d r)
object_newer d r = named_object d (state_in r)

named_number : (d : Data) (o : Option (List ℕ)) → option_and_then (λ n. state_number n (upgraded d)) o ≡ option_and_then (λ n. state_number n d) o
named_number d None = refl
named_number d (Some n) = number_upgraded n d

number_same : (d : Data) (r : Record) → number_in (upgraded d) r ≡ number_in d r
number_same d r = named_number d (state_in r)

invokes_newer : (o : Option Data) → invokes_by (option_map (newer_value sort.State) o) ≡ invokes_by o
invokes_newer None = refl
invokes_newer (Some d) = state_invokes d

invokes_same : (d : Data) (r : Record) → invokes_by (object_in (upgraded d) r) ≡ invokes_by (object_in d r)
invokes_same d r = ap invokes_by (object_newer d r) ∙ invokes_newer (object_in d r)

slots_newer : (o : Option Data) → unwrap_or (option_map slots (option_map (newer_value sort.State) o)) 0 ≡ unwrap_or (option_map slots o) 0
slots_newer None = refl
slots_newer (Some d) = state_slots d

limits_same : (d : Data) → limits_in (upgraded d) ≡ limits_in d
limits_same d = fun_ext (λ n. ap (λ (o : Option Data). unwrap_or (option_map slots o) 0) (object_upgraded n d) ∙ slots_newer (state_object n d))

-- ---- what it does

found : (d : Data) → Accepted d → (n : Option (List ℕ)) (o : Data) → option_and_then (λ k. state_object k d) n ≡ Some o → IsClean sort.State o
found d a None o e = absurd cc
found d a (Some k) o e = object_clean d a k o e

effect_newer : (o : Option Data) (f : Facts) (v : Seen) → ((d : Data) → o ≡ Some d → IsClean sort.State d) → effect_by (option_map (newer_value sort.State) o) f v ≡ effect_by o f v
effect_newer None f v c = refl
effect_newer (Some d) f v c = state_does d f v (c d refl)

effect_same : (d : Data) (f : Facts) (v : Seen) → Accepted d → effect_in (upgraded d) f v ≡ effect_in d f v
effect_same d f v a = ap (λ (o : Option Data). effect_by o f v) (object_newer d v.current) ∙ effect_newer (object_in d v.current) f v (λ o e. found d a (state_in v.current) o e)

seen_same : (d : Data) (cs : Case) (w : World) (p : List ℕ) (now : ℕ) (r : Record) → seen_at (upgraded d) cs w p now r ≡ seen_at d cs w p now r
seen_same d cs w p now r =
    let asks = invokes_same d r in
    let counted = number_same d r in
    λ i. record {
      place = p;
      current = r;
      children = children_at p w.branches;
      forker = forker_at p w.branches;
      iteration = iteration_at p w.branches;
      invokes = asks i;
      count = count_of w.counts (counted i);
      case = cs;
      moment = now;
    }

-- ---- a step

moved_same : (s : Setup) (w : World) (p : List ℕ) (now : ℕ) (o : Option Record) → Accepted s.machine → moved_on (upgraded_setup s) w p now o ≡ moved_on s w p now o
moved_same s w p now None a = refl
moved_same s w p now (Some r) a =
    let d = s.machine in
    let counted = number_same d r in
    let does = effect_same d (facts_of s) (seen_at (upgraded d) s.case w p now r) a ∙ ap (effect_in d (facts_of s)) (seen_same d s.case w p now r) in
    λ i. world_with p (counted i) now (does i) w

stepped_same : (s : Setup) (w : World) (p : List ℕ) (now : ℕ) → Accepted s.machine → stepped (upgraded_setup s) w p now ≡ stepped s w p now
stepped_same s w p now a = ap (λ (x : World). if is_late now w.deadline then timed_out now w else x) (moved_same s w p now (record_at p w.branches) a)

refusal_same : (s : Setup) (w : World) (p : List ℕ) (t : ℕ) → refusal_in (upgraded_setup s) w p t ≡ refusal_in s w p t
refusal_same s w p t = ap (λ (l : Limits). refusal_with l w p t) (limits_same s.machine)

step_same : (s : Setup) (w : World) (p : List ℕ) (t : ℕ) → Accepted s.machine → step (upgraded_setup s) w p t ≡ step s w p t
unfolding step
step_same s w p t a =
    let reply = refusal_same s w p t in
    let moved = stepped_same s w p (max w.last t) a in
    λ i. if is_none (reply i) then moved i else w

pub steps_alike : UpgradedStepsAlike
steps_alike s w p t a = record { reply = refusal_same s w p t; world = step_same s w p t a }

-- ---- runs

deadline_same : (s : Setup) → deadline_of (upgraded_setup s) ≡ deadline_of s
deadline_same s = ap (λ (o : Option Data). option_map (later s.start) (whole_in o)) (timeout_upgraded s.machine)

opening_same : (s : Setup) → opening (upgraded_setup s) ≡ opening s
opening_same s =
    let states = count_upgraded s.machine in
    let start = ap (λ (o : Option Data). unwrap_or (text_in o) []) (start_upgraded s.machine) in
    let deadline = deadline_same s in
    λ i. opening_at (states i) (start i) s.input s.start (deadline i)

worlds_same : (s : Setup) (w : World) (l : List StepAt) → Accepted s.machine → world_after (upgraded_setup s) w l ≡ world_after s w l
worlds_same s w [] a = refl
worlds_same s w (x ∷ l) a = ap (λ (y : World). world_after (upgraded_setup s) y l) (step_same s w x.place x.moment a) ∙ worlds_same s (step s w x.place x.moment) l a

lines_same : (s : Setup) (w : World) (l : List StepAt) → Accepted s.machine → step_lines (upgraded_setup s) w l ≡ step_lines s w l
lines_same s w [] a = refl
lines_same s w (x ∷ l) a =
    let reply = refusal_same s w x.place x.moment in
    let rest = ap (λ (y : World). step_lines (upgraded_setup s) y l) (step_same s w x.place x.moment a) ∙ lines_same s (step s w x.place x.moment) l a in
    λ i. step_line x.place (reply i) ++ rest i

pub runs_alike : UpgradedRunsAlike
runs_alike s l a =
    let opened = opening_same s in
    let world = ap (λ (w : World). world_after (upgraded_setup s) w l) opened ∙ worlds_same s (opening s) l a in
    let lines = ap (λ (w : World). step_lines (upgraded_setup s) w l) opened ∙ lines_same s (opening s) l a in
    record { world = world; text = λ i. lines i ++ end_text (world i) }

-- ---- driven runs

chosen_same : (s : Setup) (w : World) → chosen (upgraded_setup s) w ≡ chosen s w
chosen_same s w = ap (λ (l : Limits). chosen_by l w (pick l w)) (limits_same s.machine)

after_same : (s : Setup) (w : World) (o : Option Chosen) → Accepted s.machine → after (upgraded_setup s) w o ≡ after s w o
after_same s w None a = refl
after_same s w (Some x) a = step_same s w x.0 x.1 a

next_same : (s : Setup) (w : World) → Accepted s.machine → after (upgraded_setup s) w (chosen (upgraded_setup s) w) ≡ after s w (chosen s w)
next_same s w a = ap (after (upgraded_setup s) w) (chosen_same s w) ∙ after_same s w (chosen s w) a

driven_same : (n : ℕ) (s : Setup) (w : World) → Accepted s.machine → driven n (upgraded_setup s) w ≡ driven n s w
driven_same zero s w a = refl
driven_same (suc n) s w a = ap (driven n (upgraded_setup s)) (next_same s w a) ∙ driven_same n s (after s w (chosen s w)) a

counted_same : (n : ℕ) (s : Setup) (w : World) → Accepted s.machine → driven_steps n (upgraded_setup s) w ≡ driven_steps n s w
counted_same zero s w a = refl
counted_same (suc n) s w a =
    let first = chosen_same s w in
    let rest = ap (driven_steps n (upgraded_setup s)) (next_same s w a) ∙ counted_same n s (after s w (chosen s w)) a in
    λ i. one_if (is_some (first i)) + rest i

pub drives_alike : UpgradedDrivesAlike
drives_alike n s a =
    let opened = opening_same s in
    record {
      world = ap (driven n (upgraded_setup s)) opened ∙ driven_same n s (opening s) a;
      steps = ap (driven_steps n (upgraded_setup s)) opened ∙ counted_same n s (opening s) a;
    }
