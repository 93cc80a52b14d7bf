-- How often the steps of an order invoke a service; no more often than a history has room for.
use Rattle.std.proofs.Common.{ℕ, suc, zero, ◌≡◌, ◌≤◌, ◌+◌, ◌*◌, Bool, true, false, List, refl, sym, ◌∙◌, ap, subst, arith, cond, length, length-append, max, Some, None, Option}
use Rattle.asl_history.specs.declared.event.Event.{Event}
use Rattle.asl_step.specs.declared.effect.Effect.{Effect}
use Rattle.asl_step.specs.declared.record.Record.{Record}
use Rattle.asl_run_branches.specs.Branches.{record_at, forker_at}
use Rattle.asl_run_branches.specs.Turns.{limit_of}
use Rattle.asl_run_state.specs.Bare.{bare}
use Rattle.asl_run_state.specs.World.{World, is_late, world_with}
use Rattle.asl_run_state.proofs.Accepting.{accepted-room}
use Rattle.asl_run_state.proofs.Telling.{events-length}
use Rattle.asl_run_input.specs.declared.setup.Setup.{Setup}
use Rattle.asl_exec.specs.Steps.{facts_of, number_in, object_in, limits_in, seen_at, refusal_in, moved_on, step}
use Rattle.asl_exec.proofs.Accepting.{step_taken, step_late}
use Rattle.asl_exec.proofs.Going.{does}
use Rattle.asl_explore.specs.Orders.{due}
use Rattle.asl_explore.proofs.Invoking.{effect-tells}
use Rattle.asl_explore.proofs.Steady.{asked}

-- ---- so often

abbrev pub asks_of : Setup → World → List ℕ → ℕ → Option Record → ℕ
asks_of s w p now None = 0
asks_of s w p now (Some r) = asked (does s w p now r).raises

-- a step at the earliest moment, if it is accepted
unfoldable pub asks_at : Setup → World → List ℕ → ℕ
asks_at s w p = cond (is_late (max w.last (due w p)) w.deadline) 0 (asks_of s w p (max w.last (due w p)) (record_at p w.branches))

pub asks-late : (s : Setup) (w : World) (p : List ℕ) → is_late (max w.last (due w p)) w.deadline ≡ true → asks_at s w p ≡ 0
unfolding asks_at
asks-late s w p l = rw l refl

pub asks-taken : (s : Setup) (w : World) (p : List ℕ) (o : Option Record) → is_late (max w.last (due w p)) w.deadline ≡ false → record_at p w.branches ≡ o → asks_at s w p ≡ asks_of s w p (max w.last (due w p)) o
unfolding asks_at
asks-taken s w p o l e = rw (l, e) refl

-- the history doesn't matter
of-bare : (s : Setup) (w : World) (p : List ℕ) (now : ℕ) (o : Option Record) → asks_of s (bare w) p now o ≡ asks_of s w p now o
of-bare s w p now None = refl
of-bare s w p now (Some r) = refl

pub asks-bare : (s : Setup) (w : World) (p : List ℕ) → asks_at s (bare w) p ≡ asks_at s w p
unfolding asks_at
asks-bare s w p = ap (cond (is_late (max w.last (due w p)) w.deadline) 0) (of-bare s w p (max w.last (due w p)) (record_at p w.branches))

-- ---- a history that has room for b more invocations at most

abbrev pub HasRoom : World → ℕ → Type 0
HasRoom w b = 24993 ≤ length w.events + 3 * b

-- after a step it has room for the others
pub record Spent (s : Setup) (w : World) (p : List ℕ) (b : ℕ) : Type 0 where
  pub rest : ℕ
  pub parts : asks_at s w p + rest ≡ b
  pub room : HasRoom (step s w p (due w p)) rest

module _ (s : Setup) (w : World) (p : List ℕ) (accepted : refusal_in s w p (due w p) ≡ None) where
  late-spent : (b : ℕ) → is_late (max w.last (due w p)) w.deadline ≡ true → HasRoom w b → Spent s w p b
  late-spent b l h =
      let is = step_late s w p (due w p) accepted l in
      record {
        rest = b;
        parts = let a = asks-late s w p l in omega (arith, a);
        room = subst (λ z. HasRoom z b) (sym is) (omega (arith, h, length-append {A = Event}));
      }

  none-spent : (b : ℕ) → is_late (max w.last (due w p)) w.deadline ≡ false → record_at p w.branches ≡ None → HasRoom w b → Spent s w p b
  none-spent b l e h =
      let is : step s w p (due w p) ≡ w = step_taken s w p (due w p) accepted l ∙ ap (moved_on s w p (max w.last (due w p))) e in
      record {
        rest = b;
        parts = let a : asks_at s w p ≡ 0 = asks-taken s w p None l e in omega (arith, a);
        room = subst (λ z. HasRoom z b) (sym is) h;
      }

  module _ (r : Record) (l : is_late (max w.last (due w p)) w.deadline ≡ false) (e : record_at p w.branches ≡ Some r) where
    abbrev f : Effect
    f = does s w p (max w.last (due w p)) r

    is : step s w p (due w p) ≡ world_with p (number_in s.machine r) (max w.last (due w p)) f w
    is = step_taken s w p (due w p) accepted l ∙ ap (moved_on s w p (max w.last (due w p))) e

    more : length (world_with p (number_in s.machine r) (max w.last (due w p)) f w).events ≡ length w.events + length f.events
    more = events-length p (max w.last (due w p)) f.events w.events

    few : length w.events ≤ 24992
    few = accepted-room w p (due w p) (limit_of (limits_in s.machine) (forker_at p w.branches)) l accepted

    unasked : (b : ℕ) → f.raises ≡ false → HasRoom w b → Spent s w p b
    unasked b x h = let m = more in record {
      rest = b;
      parts = let a : asks_at s w p ≡ 0 = asks-taken s w p (Some r) l e ∙ ap asked x in omega (arith, a);
      room = subst (λ z. HasRoom z b) (sym is) (omega (arith, h, m));
    }

    asked-once : (b : ℕ) → f.raises ≡ true → HasRoom w b → Spent s w p b
    asked-once zero x h = let g = few in absurd (omega (arith, h, g))
    asked-once (suc b) x h =
        let three = effect-tells (object_in s.machine r) (facts_of s) (seen_at s.machine s.case w p (max w.last (due w p)) r) x in
        let m = more in
        record {
          rest = b;
          parts = let a : asks_at s w p ≡ 1 = asks-taken s w p (Some r) l e ∙ ap asked x in omega (arith, a);
          room = subst (λ z. HasRoom z b) (sym is) (omega (arith, h, three, m));
        }

    record-spent : (b : ℕ) → HasRoom w b → Spent s w p b
    record-spent b h = by f.raises refl
      where
        by : (c : Bool) → f.raises ≡ c → Spent s w p b
        by true x = asked-once b x h
        by false x = unasked b x h

  pub spent : (b : ℕ) → HasRoom w b → Spent s w p b
  spent b h = by (is_late (max w.last (due w p)) w.deadline) (record_at p w.branches) refl refl
    where
      by : (c : Bool) (o : Option Record) → is_late (max w.last (due w p)) w.deadline ≡ c → record_at p w.branches ≡ o → Spent s w p b
      by true o l e = late-spent b l h
      by false None l e = none-spent b l e h
      by false (Some r) l e = record-spent r l e b h
