-- Events are only told, and never taken back.
use Rattle.std.proofs.Common.{ℕ, ◌≡◌, ◌∙◌, Bool, true, false, List, [], ◌∷◌, ◌++◌, Option, Some, None, refl, sym, ap, subst, max, length, take, append_assoc, append-nil}
use Rattle.std.proofs.Math.Seq.{take-append_seam}
use Rattle.std.specs.Prelude.{is_none}
use Rattle.asl_history.specs.declared.event.Event.{Event}
use Rattle.asl_history.specs.Events.{event_after}
use Rattle.asl_step.specs.declared.effect.Draft.{Draft}
use Rattle.asl_step.specs.declared.record.Record.{Record}
use Rattle.asl_run_branches.specs.Branches.{record_at}
use Rattle.asl_run_state.specs.declared.refusal.Refusal.{Refusal}
use Rattle.asl_run_state.specs.World.{World, events_after, is_late}
use Rattle.asl_run_state.specs.Checkpoints.{world_at, IsCheckpointOf}
use Rattle.asl_run_state.specs.declared.checkpoint.Checkpoint.{Checkpoint}
use Rattle.asl_run_input.specs.declared.setup.Setup.{Setup}
use Rattle.asl_run_input.specs.declared.step_at.StepAt.{StepAt}
use Rattle.asl_exec.specs.Steps.{facts_of, effect_in, seen_at, refusal_in, moved_on, step, world_after}
use Rattle.asl_exec.proofs.Accepting.{step_refused, step_taken, step_late}

-- these events, and perhaps more behind them
pub record GoesOn (old new : List Event) : Type 0 where
  pub more : List Event
  pub is : new ≡ old ++ more

pub stays : (es : List Event) → GoesOn es es
stays es = record { more = []; is = sym (append-nil es) }

further : (a b c : List Event) → GoesOn a b → GoesOn b c → GoesOn a c
further a b c h k = record { more = h.more ++ k.more; is = k.is ∙ ap (λ (es : List Event). es ++ k.more) h.is ∙ append_assoc a h.more k.more }

one-more : (es : List Event) (e : Event) → GoesOn es (es ++ e ∷ [])
one-more es e = record { more = e ∷ []; is = refl }

told-on : (p : List ℕ) (now : ℕ) (ds : List Draft) (es : List Event) → GoesOn es (events_after p now ds es)
told-on p now [] es = stays es
told-on p now (d ∷ ds) es =
    let e = event_after es now d.kind p d.name d.body in
    further es (es ++ e ∷ []) _ (one-more es e) (told-on p now ds (es ++ e ∷ []))

moved-on : (s : Setup) (w : World) (p : List ℕ) (now : ℕ) (o : Option Record) → GoesOn w.events (moved_on s w p now o).events
moved-on s w p now None = stays w.events
moved-on s w p now (Some r) = told-on p now (effect_in s.machine (facts_of s) (seen_at s.machine s.case w p now r)).events w.events

late-on : (s : Setup) (w : World) (p : List ℕ) (t : ℕ) (late : Bool) → is_late (max w.last t) w.deadline ≡ late → refusal_in s w p t ≡ None → GoesOn w.events (step s w p t).events
late-on s w p t true l e = rw (step_late s w p t e l) (one-more w.events _)
late-on s w p t false l e = rw (step_taken s w p t e l) (moved-on s w p (max w.last t) (record_at p w.branches))

by-reply : (s : Setup) (w : World) (p : List ℕ) (t : ℕ) (o : Option Refusal) → refusal_in s w p t ≡ o → GoesOn w.events (step s w p t).events
by-reply s w p t None e = late-on s w p t (is_late (max w.last t) w.deadline) refl e
by-reply s w p t (Some r) e = rw (step_refused s w p t (ap is_none e)) (stays w.events)

-- after a step
pub step-goes-on : (s : Setup) (w : World) (p : List ℕ) (t : ℕ) → GoesOn w.events (step s w p t).events
step-goes-on s w p t = by-reply s w p t (refusal_in s w p t) refl

-- after steps
pub steps-go-on : (s : Setup) (w : World) (l : List StepAt) → GoesOn w.events (world_after s w l).events
steps-go-on s w [] = stays w.events
steps-go-on s w (a ∷ l) = further w.events _ _ (step-goes-on s w a.place a.moment) (steps-go-on s (step s w a.place a.moment) l)

-- steps behind steps
pub after-append : (s : Setup) (w : World) (l k : List StepAt) → world_after s w (l ++ k) ≡ world_after s (world_after s w l) k
after-append s w [] k = refl
after-append s w (a ∷ l) k = after-append s (step s w a.place a.moment) l k

-- the first so many events are those that there were
first-events : (es old : List Event) (n : ℕ) → n ≡ length old → GoesOn old es → take n es ≡ old
first-events es old n e on = ap (take n) on.is ∙ ap (λ (m : ℕ). take m (old ++ on.more)) e ∙ take-append_seam old on.more

-- a checkpoint of a world, among the events that came later
pub checkpoint-stays : (s : Setup) (w : World) (l : List StepAt) (c : Checkpoint) → IsCheckpointOf c w → (world_at c (world_after s w l).events ≡ w) × IsCheckpointOf c (world_at c (world_after s w l).events)
checkpoint-stays s w l c is =
    let later = (world_after s w l).events in
    let now : take c.told later ≡ take c.told w.events = first-events later w.events c.told is.told (steps-go-on s w l) ∙ sym (first-events w.events w.events c.told is.told (stays w.events)) in
    let shows : world_at c later ≡ w = ap (λ (es : List Event). record (world_at c later) { events = es }) now ∙ is.shows in
    (shows, subst (λ (v : World). IsCheckpointOf c v) (sym shows) is)
