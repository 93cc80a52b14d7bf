-- Worlds that are alike stay so.
use Rattle.std.proofs.Common.{ℕ, ◌≡◌, Bool, true, false, List, [], ◌∷◌, ◌++◌, refl, sym, ◌∙◌, subst, arith, cond, length, length-append, map, max, Some, None, Option}
use Rattle.std.specs.Prelude.{is_none}
use Rattle.asl_history.specs.declared.event.Event.{Event}
use Rattle.asl_history.specs.declared.kind.EventKind.TheVariants.{ExecutionTimedOut}
use Rattle.asl_history.specs.Events.{event_after}
use Rattle.asl_step.specs.declared.effect.Effect.{Effect}
use Rattle.asl_step.specs.declared.record.Record.{Record}
use Rattle.asl_step.specs.declared.record.Record.TheVariants.{New, Ready, Pausing, Again, Forked, Done, Failed}
use Rattle.asl_step.specs.Rows.{draft, error_output}
use Rattle.asl_run_branches.specs.Branches.{same_place, record_at}
use Rattle.asl_run_state.specs.World.{World, is_late, world_with, timed_out, timeout_error}
use Rattle.asl_run_state.specs.Refusals.{refusal_by, refusal_at, refusal_of}
use Rattle.asl_run_state.proofs.Telling.{events-length}
use Rattle.asl_run_input.specs.declared.setup.Setup.{Setup}
use Rattle.asl_run_input.specs.declared.step_at.StepAt.{StepAt}
use Rattle.asl_exec.specs.Steps.{facts_of, effect_in, seen_at, refusal_in, moved_on, step, world_after}
use Rattle.asl_exec.specs.Exchanges.{told_at, AreAlike}
use Rattle.asl_exec_swap_laws.proofs.Telling.{told-append, told-after}

-- the same world, of which this was told
abbrev pub with_events : List Event → World → World
with_events es w = record { branches = w.branches; counts = w.counts; events = es; last = w.last; deadline = w.deadline; outcome = w.outcome }

module _ (s : Setup) (w : World) (es : List Event) (many : length es ≡ length w.events) (told : (q : List ℕ) → told_at q es ≡ told_at q w.events) where
  -- ---- it refuses the same steps

  by-same : (p : List ℕ) (now slots : ℕ) (r : Record) → refusal_by (with_events es w) p now slots r ≡ refusal_by w p now slots r
  by-same p now slots (New n x) = rw many refl
  by-same p now slots (Ready n x) = rw many refl
  by-same p now slots (Pausing n x since until) = rw many refl
  by-same p now slots (Again n x since uses until) = rw many refl
  by-same p now slots (Forked n x since uses items) = rw many refl
  by-same p now slots (Done x) = refl
  by-same p now slots (Failed e) = refl

  at-same : (p : List ℕ) (now slots : ℕ) (o : Option Record) → refusal_at (with_events es w) p now slots o ≡ refusal_at w p now slots o
  at-same p now slots None = refl
  at-same p now slots (Some r) = rw (by-same p now slots r) refl

  refused-same : (p : List ℕ) (t : ℕ) → refusal_in s (with_events es w) p t ≡ refusal_in s w p t
  unfolding refusal_of
  refused-same p t = rw (at-same p (max w.last t) _ (record_at p w.branches)) refl

  -- ---- and the same is told by a step

  still : AreAlike (with_events es w) w
  still = record { branches = refl; counts = refl; outcome = refl; last = refl; deadline = refl; many = many; told = told }

  told-late : (now : ℕ) → AreAlike (timed_out now (with_events es w)) (timed_out now w)
  told-late now = record {
    branches = refl;
    counts = refl;
    outcome = refl;
    last = refl;
    deadline = refl;
    many = omega (arith, many, length-append es (late es ∷ []), length-append w.events (late w.events ∷ []));
    told = λ q. told-append q es (late es ∷ []) ∙ rw (told q) (by q (same_place q [])) ∙ sym (told-append q w.events (late w.events ∷ []));
  }
    where
      late : List Event → Event
      late fs = event_after fs now ExecutionTimedOut [] [] (error_output timeout_error)

      by : (q : List ℕ) (c : Bool) → told_at q w.events ++ map (λ (e : Event). (e.at, draft e.kind e.name e.body)) (cond c (late es ∷ []) []) ≡ told_at q w.events ++ map (λ (e : Event). (e.at, draft e.kind e.name e.body)) (cond c (late w.events ∷ []) [])
      by q true = refl
      by q false = refl

  told-with : (p : List ℕ) (n : Option ℕ) (now : ℕ) (e : Effect) → AreAlike (world_with p n now e (with_events es w)) (world_with p n now e w)
  told-with p n now e = record {
    branches = refl;
    counts = refl;
    outcome = refl;
    last = refl;
    deadline = refl;
    many = omega (arith, many, events-length p now e.events es, events-length p now e.events w.events);
    told = λ q. told-after (same_place q p) q p now e.events es refl ∙ rw (told q) refl ∙ sym (told-after (same_place q p) q p now e.events w.events refl);
  }

  moved-alike : (p : List ℕ) (now : ℕ) (r : Option Record) → AreAlike (moved_on s (with_events es w) p now r) (moved_on s w p now r)
  moved-alike p now None = still
  moved-alike p now (Some r) = told-with p _ now (effect_in s.machine (facts_of s) (seen_at s.machine s.case w p now r))

  step-same : (p : List ℕ) (t : ℕ) → AreAlike (step s (with_events es w) p t) (step s w p t)
  unfolding step
  step-same p t =
      rw (refused-same p t) (
      of (is_none (refusal_in s w p t))
      (of (is_late (max w.last t) w.deadline) (told-late (max w.last t)) (moved-alike p (max w.last t) (record_at p w.branches)))
      still
      )
    where
      of : {a b x y : World} (c : Bool) → AreAlike a b → AreAlike x y → AreAlike (cond c a x) (cond c b y)
      of true h k = h
      of false h k = k

-- ---- so do all that are alike

as-world : (u v : World) → AreAlike u v → with_events u.events v ≡ u
as-world u v h = λ i. record { branches = sym h.branches i; counts = sym h.counts i; events = u.events; last = sym h.last i; deadline = sym h.deadline i; outcome = sym h.outcome i }

step-alike : (s : Setup) (u v : World) (p : List ℕ) (t : ℕ) → AreAlike u v → AreAlike (step s u p t) (step s v p t)
step-alike s u v p t h = subst (λ z. AreAlike (step s z p t) (step s v p t)) (as-world u v h) (step-same s v u.events h.many h.told p t)

pub later-alike : (s : Setup) (u v : World) (l : List StepAt) → AreAlike u v → AreAlike (world_after s u l) (world_after s v l)
later-alike s u v [] h = h
later-alike s u v (a ∷ l) h = later-alike s (step s u a.place a.moment) (step s v a.place a.moment) l (step-alike s u v a.place a.moment h)

pub after-append : (s : Setup) (w : World) (l m : List StepAt) → world_after s w (l ++ m) ≡ world_after s (world_after s w l) m
after-append s w [] m = refl
after-append s w (a ∷ l) m = after-append s (step s w a.place a.moment) l m
