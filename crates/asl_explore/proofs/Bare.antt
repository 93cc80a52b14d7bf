-- A step reads nothing of the history.
use Rattle.std.proofs.Common.{ℕ, ◌≡◌, ◌⊎◌, inl, inr, ◌∙◌, ap, sym, refl, Bool, true, false, List, max, Option, Some, None, if◌then◌else◌}
use Rattle.std.specs.Prelude.{is_none}
use Rattle.asl_step.specs.declared.record.Record.{Record}
use Rattle.asl_step.specs.declared.record.Record.TheVariants.{New, Ready, Pausing, Again, Forked, Done, Failed}
use Rattle.asl_run_branches.specs.Branches.{record_at, children_at, forker_at, is_stopped, is_busy}
use Rattle.asl_run_branches.specs.Turns.{is_crowded, limit_of}
use Rattle.asl_run_state.specs.World.{World, is_over, is_late}
use Rattle.asl_run_state.specs.declared.refusal.Refusal.{Refusal}
use Rattle.asl_run_state.specs.declared.refusal.Refusal.TheVariants.{Over}
use Rattle.asl_run_state.specs.Refusals.{refusal_if_full, refusal_by, refusal_at, refusal_of}
use Rattle.asl_run_state.proofs.Accepting.{has_place}
use Rattle.asl_run_input.specs.declared.setup.Setup.{Setup}
use Rattle.asl_exec.specs.Steps.{limits_in, refusal_in, moved_on, step}
use Rattle.asl_exec.proofs.Accepting.{step_refused, step_taken, step_late}
use Rattle.asl_run_state.specs.Bare.{bare}

-- ---- what isn't refused isn't refused without the history

still : (b : Bool) (r : Refusal) (o : Option Refusal) → (if b then Some r else o) ≡ None → (if b then Some r else None) ≡ None
still true r o h = (cc)
still false r o h = refl

by-record : (w : World) (p : List ℕ) (now slots : ℕ) (r : Record) → refusal_by w p now slots r ≡ None → refusal_by (bare w) p now slots r ≡ None
by-record w p now slots (New n x) h = still (is_crowded slots p w.branches) _ (refusal_if_full w) h
by-record w p now slots (Ready n x) h = refl
by-record w p now slots (Pausing n x since until) h = still _ _ (refusal_if_full w) h
by-record w p now slots (Again n x since uses until) h = still _ _ (refusal_if_full w) h
by-record w p now slots (Forked n x since uses items) h = still (is_busy (children_at p w.branches)) _ (refusal_if_full w) h
by-record w p now slots (Done x) h = (cc)
by-record w p now slots (Failed e) h = (cc)

at-place : (w : World) (p : List ℕ) (now slots : ℕ) (o : Option Record) → refusal_at w p now slots o ≡ None → refusal_at (bare w) p now slots o ≡ None
at-place w p now slots None h = (cc)
at-place w p now slots (Some r) h = by (is_stopped p w.branches) refl h
  where
    by : (b : Bool) → is_stopped p w.branches ≡ b → refusal_at w p now slots (Some r) ≡ None → refusal_at (bare w) p now slots (Some r) ≡ None
    by true e h = let x : Some _ ≡ None = rw e at h in (cc)
    by false e h = rw e (by-record w p now slots r (rw e at h))

pub bare-accepts : (w : World) (p : List ℕ) (t slots : ℕ) → refusal_of w p t slots ≡ None → refusal_of (bare w) p t slots ≡ None
unfolding refusal_of
bare-accepts w p t slots h = by (is_over w.outcome) (is_late (max w.last t) w.deadline) refl refl h
  where
    by : (o l : Bool) → is_over w.outcome ≡ o → is_late (max w.last t) w.deadline ≡ l → refusal_of w p t slots ≡ None → refusal_of (bare w) p t slots ≡ None
    by true l e f h = let x : Some Over ≡ None = rw e at h in (cc)
    by false true e f h = rw (e, f) refl
    by false false e f h = rw (e, f) (at-place w p (max w.last t) slots (record_at p w.branches) (rw (e, f) at h))

-- ---- the world that a step leaves

moved-bare : (s : Setup) (w : World) (p : List ℕ) (now : ℕ) (o : Option Record) → bare (moved_on s w p now o) ≡ bare (moved_on s (bare w) p now o)
moved-bare s w p now None = refl
moved-bare s w p now (Some r) = refl

taken : (s : Setup) (w : World) (p : List ℕ) (t : ℕ) (l : Bool) → is_late (max w.last t) w.deadline ≡ l → refusal_in s w p t ≡ None → bare (step s w p t) ≡ bare (step s (bare w) p t)
taken s w p t true l h =
    let h' = bare-accepts w p t (limit_of (limits_in s.machine) (forker_at p w.branches)) h in
    ap bare (step_late s w p t h l) ∙ sym (ap bare (step_late s (bare w) p t h' l))
taken s w p t false l h =
    let h' = bare-accepts w p t (limit_of (limits_in s.machine) (forker_at p w.branches)) h in
    ap bare (step_taken s w p t h l) ∙ moved-bare s w p (max w.last t) (record_at p w.branches) ∙ sym (ap bare (step_taken s (bare w) p t h' l))

pub step-bare : (s : Setup) (w : World) (p : List ℕ) (t : ℕ) → (step s w p t ≡ w) ⊎ (bare (step s w p t) ≡ bare (step s (bare w) p t))
step-bare s w p t = by (refusal_in s w p t) refl
  where
    by : (o : Option Refusal) → refusal_in s w p t ≡ o → (step s w p t ≡ w) ⊎ (bare (step s w p t) ≡ bare (step s (bare w) p t))
    by None e = inr (taken s w p t (is_late (max w.last t) w.deadline) refl e)
    by (Some r) e = inl (step_refused s w p t (ap is_none e))

-- ---- steps that change nothing

pub over-refuses : (w : World) (p : List ℕ) (t slots : ℕ) → is_over w.outcome ≡ true → is_none (refusal_of w p t slots) ≡ false
unfolding refusal_of
over-refuses w p t slots o = rw o refl

pub step-over : (s : Setup) (w : World) (p : List ℕ) (t : ℕ) → is_over w.outcome ≡ true → step s w p t ≡ w
step-over s w p t o = step_refused s w p t (over-refuses w p t (limit_of (limits_in s.machine) (forker_at p w.branches)) o)

-- no branch is there, and its time isn't over
pub step-nowhere : (s : Setup) (w : World) (p : List ℕ) (t : ℕ) → is_late (max w.last t) w.deadline ≡ false → record_at p w.branches ≡ None → step s w p t ≡ w
step-nowhere s w p t l n = by (refusal_in s w p t) refl
  where
    by : (o : Option Refusal) → refusal_in s w p t ≡ o → step s w p t ≡ w
    by None e = absurd (has_place w p t (limit_of (limits_in s.machine) (forker_at p w.branches)) l e n)
    by (Some r) e = step_refused s w p t (ap is_none e)
