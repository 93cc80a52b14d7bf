-- What holds of a step, by its reply.
use Rattle.std.proofs.Common.{ℕ, ◌≡◌, ◌∙◌, ap, sym, true, false, List, refl, max, Option, Some, None}
use Rattle.std.specs.Prelude.{is_none}
use Rattle.asl_json_data.specs.Data.{Data}
use Rattle.asl_step.specs.declared.facts.Facts.{Facts}
use Rattle.asl_step.specs.declared.record.Record.{Record}
use Rattle.asl_step.specs.Bounds.{IsBounded}
use Rattle.asl_step.specs.private.Laws.{idle-bounded}
use Rattle.asl_step.specs.Seen.{Seen}
use Rattle.asl_kinds.specs.private.Laws.{state-bounded}
use Rattle.asl_mock.specs.Answers.{Case}
use Rattle.asl_step.specs.declared.effect.Effect.{Effect}
use Rattle.asl_run_branches.specs.Branches.{record_at, children_at, forker_at, iteration_at}
use Rattle.asl_run_state.specs.World.{World, is_late, count_of, world_with, timed_out}
use Rattle.asl_run_input.specs.declared.setup.Setup.{Setup}
use Rattle.asl_exec.specs.Steps.{facts_of, object_in, invokes_by, effect_by, effect_in, number_in, seen_at, refusal_in, moved_on, step}

-- ---- the world after a step, by its reply

pub step_refused : (s : Setup) (w : World) (p : List ℕ) (t : ℕ) → is_none (refusal_in s w p t) ≡ false → step s w p t ≡ w
unfolding step
step_refused s w p t e = rw e refl

pub step_taken : (s : Setup) (w : World) (p : List ℕ) (t : ℕ) → refusal_in s w p t ≡ None → is_late (max w.last t) w.deadline ≡ false → step s w p t ≡ moved_on s w p (max w.last t) (record_at p w.branches)
unfolding step
step_taken s w p t e l = rw (e, l) refl

pub step_late : (s : Setup) (w : World) (p : List ℕ) (t : ℕ) → refusal_in s w p t ≡ None → is_late (max w.last t) w.deadline ≡ true → step s w p t ≡ timed_out (max w.last t) w
unfolding step
step_late s w p t e l = rw (e, l) refl

-- the effect of a step, applied
pub applied : (s : Setup) (w : World) (p : List ℕ) (now : ℕ) (r : Record) → record_at p w.branches ≡ Some r → moved_on s w p now (record_at p w.branches) ≡ world_with p (number_in s.machine r) now (effect_in s.machine (facts_of s) (seen_at s.machine s.case w p now r)) w
applied s w p now r h = rw h refl

-- ---- its effect has the bounds that all kinds have

by-bounded : (o : Option Data) (f : Facts) (v : Seen) → IsBounded v (invokes_by o) (effect_by o f v)
by-bounded None f v = idle-bounded v false v.current refl
by-bounded (Some d) f v = state-bounded d f v

pub effect-bounded : (d : Data) (f : Facts) (v : Seen) → IsBounded v (invokes_by (object_in d v.current)) (effect_in d f v)
effect-bounded d f v = by-bounded (object_in d v.current) f v

-- ---- what a step may read is what its parts say

pub seen-is : (d : Data) (cs : Case) (w : World) (p : List ℕ) (now : ℕ) (r : Record) (v : Seen) → v.place ≡ p → v.current ≡ r → v.children ≡ children_at p w.branches → v.forker ≡ forker_at p w.branches → v.iteration ≡ iteration_at p w.branches → v.invokes ≡ invokes_by (object_in d r) → v.count ≡ count_of w.counts (number_in d r) → v.case ≡ cs → v.moment ≡ now → v ≡ seen_at d cs w p now r
seen-is d cs w p now r v place current children forker iteration invokes count case moment = λ i. record {
  place = place i;
  current = current i;
  children = children i;
  forker = forker i;
  iteration = iteration i;
  invokes = invokes i;
  count = count i;
  case = case i;
  moment = moment i;
}

pub effect-is : (d : Data) (f : Facts) (o : Option Data) (r : Record) (e : Effect) (v u : Seen) → e ≡ effect_by o f v → o ≡ object_in d r → v ≡ u → u.current ≡ r → e ≡ effect_in d f u
effect-is d f o r e v u is object same current = is ∙ ap (λ (z : Option Data). effect_by z f v) (object ∙ ap (object_in d) (sym current)) ∙ ap (effect_by (object_in d u.current) f) same
