-- What holds of a world that takes a step.
use Rattle.std.proofs.Common.{ℕ, ◌≡◌, ◌≤◌, Bool, true, false, List, length, refl, arith, max, Option, Some, None, if◌then◌else◌}
use Rattle.std.specs.Prelude.{nat_lt}
use Rattle.std.proofs.lemmas.Bool.Decides.{nat_tests}
use Rattle.asl_step.specs.Records.{is_finished}
use Rattle.asl_step.specs.declared.record.Record.{Record}
use Rattle.asl_step.specs.declared.record.Record.TheVariants.{New, Ready, Pausing, Again, Forked, Done, Failed}
use Rattle.asl_run_state.specs.declared.refusal.Refusal.{Refusal}
use Rattle.asl_run_branches.specs.Branches.{record_at, children_at, is_stopped, is_busy}
use Rattle.asl_run_state.specs.World.{World, is_over, is_late}
use Rattle.asl_run_branches.specs.Turns.{is_crowded}
use Rattle.asl_run_state.specs.Refusals.{refusal_if_full, refusal_by, refusal_at, refusal_of}

-- ---- there is room for its events

room : (w : World) → refusal_if_full w ≡ None → length w.events ≤ 24992
room w h = room-cases (nat_lt 24992 (length w.events)) refl h where
  room-cases : (b : Bool) → nat_lt 24992 (length w.events) ≡ b → refusal_if_full w ≡ None → length w.events ≤ 24992
  room-cases true e h = let f : Some _ ≡ None = rw e at h in (cc)
  room-cases false e h = grind (arith, nat_tests, e)

otherwise : (b : Bool) (r : Refusal) (o : Option Refusal) → (if b then Some r else o) ≡ None → o ≡ None
otherwise true r o h = (cc)
otherwise false r o h = h

room-by : (w : World) (p : List ℕ) (now slots : ℕ) (r : Record) → refusal_by w p now slots r ≡ None → length w.events ≤ 24992
room-by w p now slots (New n x) h = room w (otherwise (is_crowded slots p w.branches) _ (refusal_if_full w) h)
room-by w p now slots (Ready n x) h = room w h
room-by w p now slots (Pausing n x since until) h = room w (otherwise (nat_lt now until) _ (refusal_if_full w) h)
room-by w p now slots (Again n x since uses until) h = room w (otherwise (nat_lt now until) _ (refusal_if_full w) h)
room-by w p now slots (Forked n x since uses items) h = room w (otherwise (is_busy (children_at p w.branches)) _ (refusal_if_full w) h)
room-by w p now slots (Done x) h = (cc)
room-by w p now slots (Failed e) h = (cc)

room-at : (w : World) (p : List ℕ) (now slots : ℕ) (o : Option Record) → refusal_at w p now slots o ≡ None → length w.events ≤ 24992
room-at w p now slots None h = (cc)
room-at w p now slots (Some r) h = room-by w p now slots r (otherwise (is_stopped p w.branches) _ (refusal_by w p now slots r) h)

-- a step for which it isn't too late
in-time : (w : World) (p : List ℕ) (t slots : ℕ) → is_late (max w.last t) w.deadline ≡ false → refusal_of w p t slots ≡ None → refusal_at w p (max w.last t) slots (record_at p w.branches) ≡ None
unfolding refusal_of
in-time w p t slots late h = rw late at (otherwise (is_over w.outcome) _ _ h)

pub accepted-room : (w : World) (p : List ℕ) (t slots : ℕ) → is_late (max w.last t) w.deadline ≡ false → refusal_of w p t slots ≡ None → length w.events ≤ 24992
accepted-room w p t slots late h = room-at w p (max w.last t) slots (record_at p w.branches) (in-time w p t slots late h)

-- a branch runs there
pub has_place : (w : World) (p : List ℕ) (t slots : ℕ) → is_late (max w.last t) w.deadline ≡ false → refusal_of w p t slots ≡ None → record_at p w.branches ≡ None → ⊥
has_place w p t slots late e n = let some : Some _ ≡ None = rw n at (in-time w p t slots late e) in (cc)

-- and it hasn't ended
going-by : (w : World) (p : List ℕ) (now slots : ℕ) (r : Record) → refusal_by w p now slots r ≡ None → is_finished r ≡ false
going-by w p now slots (New n x) h = refl
going-by w p now slots (Ready n x) h = refl
going-by w p now slots (Pausing n x since until) h = refl
going-by w p now slots (Again n x since uses until) h = refl
going-by w p now slots (Forked n x since uses items) h = refl
going-by w p now slots (Done x) h = (cc)
going-by w p now slots (Failed e) h = (cc)

pub goes_there : (w : World) (p : List ℕ) (t slots : ℕ) (r : Record) → is_late (max w.last t) w.deadline ≡ false → refusal_of w p t slots ≡ None → record_at p w.branches ≡ Some r → is_finished r ≡ false
goes_there w p t slots r late e at =
    let there : refusal_at w p (max w.last t) slots (Some r) ≡ None = rw at at (in-time w p t slots late e) in
    going-by w p (max w.last t) slots r (otherwise (is_stopped p w.branches) _ (refusal_by w p (max w.last t) slots r) there)
