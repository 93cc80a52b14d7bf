-- Steps that go on.
use Rattle.std.proofs.Common.{ℕ, ◌≡◌, ◌&&◌, Bool, true, false, not, List, [], ◌∷◌, ◌++◌, refl, sym, ◌∙◌, ap, subst, cond, max, Some, None, Option}
use Rattle.std.specs.Prelude.{is_none, is_some}
use Rattle.std.proofs.lemmas.Bool.{and_parts, not-true}
use Rattle.asl_json_data.specs.Data.{Data}
use Rattle.asl_json.specs.private.SameLaws.{bytes_refl}
use Rattle.asl_history.specs.Places.{is_prefix}
use Rattle.asl_step.specs.Bounds.{are_kept}
use Rattle.asl_step.specs.declared.effect.Children.{Children}
use Rattle.asl_step.specs.declared.effect.Effect.{Effect}
use Rattle.asl_step.specs.declared.effect.Ended.{Ended}
use Rattle.asl_step.specs.declared.effect.Ended.TheVariants.{Succeeded as EndedWell, Failed as EndedBadly}
use Rattle.asl_step.specs.declared.record.Record.{Record}
use Rattle.asl_step.specs.Records.{state_in, is_failed}
use Rattle.asl_run_branches.specs.Branches.{Branch, same_place, record_at, forker_at, is_stopped, family, branches_after}
use Rattle.asl_run_branches.specs.Turns.{limit_of}
use Rattle.asl_run_state.specs.declared.outcome.Outcome.{Outcome}
use Rattle.asl_run_state.specs.declared.refusal.Refusal.{Refusal}
use Rattle.asl_run_state.specs.declared.refusal.Refusal.TheVariants.{Over, NoSuchPlace, Stopped}
use Rattle.asl_run_state.specs.World.{World, is_over, is_late, outcome_after, world_with}
use Rattle.asl_run_state.specs.Refusals.{refusal_by, refusal_of}
use Rattle.asl_run_input.specs.declared.setup.Setup.{Setup}
use Rattle.asl_run_input.specs.declared.step_at.StepAt.{StepAt}
use Rattle.asl_exec.specs.Steps.{facts_of, number_in, object_in, invokes_by, limits_in, seen_at, effect_in, refusal_in, step}
use Rattle.asl_exec.specs.declared.obstacle.Obstacle.TheVariants.{Ends}
use Rattle.asl_exec.specs.Exchanges.{has_failed, goes_on, invoked_by, halt_by, halted}
use Rattle.asl_exec.proofs.Accepting.{step_taken, step_late, applied}

-- ---- what is read at p itself

pub record-after : (p : List ℕ) (r s : Record) (c : Children) (bs : List Branch) → record_at p bs ≡ Some s → record_at p (branches_after p r c bs) ≡ Some r
record-after p r s c [] h = (cc)
record-after p r s c (b ∷ bs) h = by (same_place p b.place) (is_prefix p b.place && not (are_kept c)) refl (record-after p r s c bs)
  where
    by : (t k : Bool) → same_place p b.place ≡ t → (record_at p bs ≡ Some s → record_at p (branches_after p r c bs) ≡ Some r) → record_at p (cond t (family p r c) (cond k [] (b ∷ [])) ++ branches_after p r c bs) ≡ Some r
    by true k e more = rw (bytes_refl p) refl
    by false true e more = more (rw e at h)
    by false false e more = rw e (more (rw e at h))

-- ---- a step that goes on

abbrev pub does : Setup → World → List ℕ → ℕ → Record → Effect
does s w p now r = effect_in s.machine (facts_of s) (seen_at s.machine s.case w p now r)

abbrev pub next : Setup → World → List ℕ → ℕ → Record → World
next s w p now r = world_with p (number_in s.machine r) now (does s w p now r) w

abbrev pub slots_at : Setup → World → List ℕ → ℕ
slots_at s w p = limit_of (limits_in s.machine) (forker_at p w.branches)

-- it is accepted, for these reasons,
pub record IsReady (s : Setup) (w : World) (p : List ℕ) (now : ℕ) (r : Record) : Type 0 where
  pub running : is_over w.outcome ≡ false
  pub early : is_late now w.deadline ≡ false
  pub there : record_at p w.branches ≡ Some r
  pub free : is_stopped p w.branches ≡ false
  pub ready : refusal_by w p now (slots_at s w p) r ≡ None

-- and tells neither of the execution's end nor of its branch's failure
pub record GoesOn (s : Setup) (w : World) (p : List ℕ) (now : ℕ) (r : Record) : Type 0 where
  pub is_ready : IsReady s w p now r
  pub silent : (does s w p now r).outcome ≡ None
  pub whole : is_failed (does s w p now r).after ≡ false

ready-so : (s : Setup) (w : World) (p : List ℕ) (t : ℕ) (r : Record) → IsReady s w p (max w.last t) r → refusal_in s w p t ≡ None
unfolding refusal_of
ready-so s w p t r a = rw (a.running, a.early, a.there, a.free) a.ready

ready-step : (s : Setup) (w : World) (p : List ℕ) (t : ℕ) (r : Record) → IsReady s w p (max w.last t) r → step s w p t ≡ next s w p (max w.last t) r
ready-step s w p t r a = step_taken s w p t (ready-so s w p t r a) a.early ∙ applied s w p (max w.last t) r a.there

-- the same by the present moment
pub step-is : (s : Setup) (w : World) (p : List ℕ) (t now : ℕ) (r : Record) → max w.last t ≡ now → IsReady s w p now r → (refusal_in s w p t ≡ None) × (step s w p t ≡ next s w p now r)
step-is s w p t now r e a =
    let b : IsReady s w p (max w.last t) r = subst (λ n. IsReady s w p n r) (sym e) a in
    (ready-so s w p t r b, ready-step s w p t r b ∙ ap (λ n. next s w p n r) e)

-- a step that is accepted and comes in time is ready
pub ready-if : (s : Setup) (w : World) (p : List ℕ) (t : ℕ) → refusal_in s w p t ≡ None → is_late (max w.last t) w.deadline ≡ false → (r : Record) × IsReady s w p (max w.last t) r
unfolding refusal_of
ready-if s w p t h early = by (is_over w.outcome) (record_at p w.branches) (is_stopped p w.branches) refl refl refl
  where
    by : (o : Bool) (m : Option Record) (f : Bool) → is_over w.outcome ≡ o → record_at p w.branches ≡ m → is_stopped p w.branches ≡ f → (r : Record) × IsReady s w p (max w.last t) r
    by true m f eo em ef = absurd (let x : Some Over ≡ None = rw eo at h in cc)
    by false None f eo em ef = absurd (let x : Some NoSuchPlace ≡ None = rw (eo, early, em) at h in cc)
    by false (Some r) true eo em ef = absurd (let x : Some Stopped ≡ None = rw (eo, early, em, ef) at h in cc)
    by false (Some r) false eo em ef = (r, record { running = eo; early = early; there = em; free = ef; ready = rw (eo, early, em, ef) at h })

none-is : (o : Option Refusal) → is_none o ≡ true → o ≡ None
none-is None h = refl
none-is (Some r) h = (cc)

silent-if : (e : Option Ended) (o : Outcome) → is_over (outcome_after e o) ≡ false → e ≡ None
silent-if None o h = refl
silent-if (Some (EndedWell x)) o h = (cc)
silent-if (Some (EndedBadly x)) o h = (cc)

-- a step for which it is too late ends the execution
in-time : (s : Setup) (w : World) (p : List ℕ) (t : ℕ) → refusal_in s w p t ≡ None → is_over (step s w p t).outcome ≡ false → is_late (max w.last t) w.deadline ≡ false
in-time s w p t h o = by (is_late (max w.last t) w.deadline) refl
  where
    by : (c : Bool) → is_late (max w.last t) w.deadline ≡ c → c ≡ false
    by true e = let x : true ≡ false = rw (step_late s w p t h e) at o in x
    by false e = refl

goes-by : (s : Setup) (w : World) (p : List ℕ) (t : ℕ) (r : Record) → IsReady s w p (max w.last t) r → is_over (step s w p t).outcome ≡ false → has_failed (record_at p (step s w p t).branches) ≡ false → GoesOn s w p (max w.last t) r
goes-by s w p t r a goes whole =
    let e = does s w p (max w.last t) r in
    let is = ready-step s w p t r a in
    record {
      is_ready = a;
      silent = silent-if e.outcome w.outcome (rw is at goes);
      whole = rw (is, record-after p e.after r e.children w.branches a.there) at whole;
    }

pub so-goes : (s : Setup) (w : World) (p : List ℕ) (t : ℕ) → goes_on s w p t ≡ true → (r : Record) × GoesOn s w p (max w.last t) r
so-goes s w p t g =
    let a = and_parts (is_none (refusal_in s w p t)) _ g in
    let b = and_parts (not (is_over (step s w p t).outcome)) _ a.1 in
    let accepted : refusal_in s w p t ≡ None = none-is (refusal_in s w p t) a.0 in
    let goes : is_over (step s w p t).outcome ≡ false = not-true _ b.0 in
    let x = ready-if s w p t accepted (in-time s w p t accepted goes) in
    (x.0, goes-by s w p t x.0 x.1 goes (not-true _ b.1))

-- ---- how the code finds it out

-- where it is too late, an accepted step ends the execution
pub halted-late : (s : Setup) (w : World) (a : StepAt) → refusal_in s w a.place a.moment ≡ None → is_late (max w.last a.moment) w.deadline ≡ true → Some (Ends a.place) ≡ halted s w a
halted-late s w a e l = rw (step_late s w a.place a.moment e l) refl

over-if : (e : Option Ended) (o : Outcome) → is_over o ≡ false → is_over (outcome_after e o) ≡ is_some e
over-if None o h = h
over-if (Some (EndedWell x)) o h = refl
over-if (Some (EndedBadly x)) o h = refl

-- else its effect says whether it goes on
pub halted-is : (s : Setup) (w : World) (a : StepAt) (r : Record) (e : Effect) → refusal_in s w a.place a.moment ≡ None → is_late (max w.last a.moment) w.deadline ≡ false → record_at a.place w.branches ≡ Some r → e ≡ does s w a.place (max w.last a.moment) r → halt_by (is_some e.outcome) (is_failed e.after) a.place ≡ halted s w a
halted-is s w a r e h l at is =
    let x = ready-if s w a.place a.moment h l in
    let d = does s w a.place (max w.last a.moment) r in
    let step_is : step s w a.place a.moment ≡ next s w a.place (max w.last a.moment) r = step_taken s w a.place a.moment h l ∙ applied s w a.place (max w.last a.moment) r at in
    rw (is, step_is, record-after a.place d.after r d.children w.branches at, over-if d.outcome w.outcome x.1.running) refl

-- ---- what a step invokes

pub invoked-if : (d : Data) (o : Option Record) (r : Record) (b : Bool) → o ≡ Some r → invokes_by (object_in d r) ≡ b → invoked_by d o ≡ cond b (state_in r) None
invoked-if d o r b e f = rw (e, f) refl
