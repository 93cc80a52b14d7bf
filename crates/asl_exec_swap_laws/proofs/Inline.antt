-- Branches that wait for others, and branches that may step at once.
use Rattle.std.proofs.Common.{ℕ, ◌≡◌, ◌≤◌, ◌&&◌, ◌||◌, Bool, true, false, not, List, [], ◌∷◌, ◌++◌, refl, sym, ap, subst, append_assoc, arith, cond, length, Some, None, Option}
use Rattle.std.specs.Prelude.{is_some, nat_lt}
use Rattle.std.specs.List.{list_any, list_all}
use Rattle.std.proofs.lemmas.Bool.{both_ways, ltb-false}
use Rattle.std.proofs.lemmas.List.{append-nil}
use Rattle.asl_history.specs.Places.{is_prefix, is_beside}
use Rattle.asl_step.specs.Records.{is_done, is_failed}
use Rattle.asl_step.specs.declared.effect.Effect.{Effect}
use Rattle.asl_step.specs.declared.record.Record.{Record}
use Rattle.asl_step.specs.declared.record.Record.TheVariants.{New, Ready, Pausing, Again, Forked, Done, Failed}
use Rattle.asl_run_branches.specs.Branches.{Branch, record_at, children_at, is_stopped, is_busy}
use Rattle.asl_run_branches.specs.Earliest.{due_from}
use Rattle.asl_run_state.specs.World.{World, is_over}
use Rattle.asl_run_state.specs.declared.refusal.Refusal.{Refusal}
use Rattle.asl_run_state.specs.Refusals.{refusal_if_full, refusal_by}
use Rattle.asl_run_input.specs.declared.setup.Setup.{Setup}
use Rattle.asl_exec.proofs.Going.{slots_at, IsReady}
use Rattle.asl_exec_swap_laws.proofs.Changing.{undone-by, with-room}
use Rattle.asl_exec_swap_laws.proofs.Rooted.{is_joining, joins_at, joins_in, IsRooted, rooted-above, below}
use Rattle.asl_exec_swap_laws.proofs.Families.{child-done, failed-stops, stopped-by-child}
use Rattle.asl_exec_swap_laws.proofs.Pending.{IsPending, unfinished-by}

-- ---- branches that wait for others

unless : (b : Bool) (x : Refusal) (o : Option Refusal) → cond b (Some x) o ≡ None → b ≡ false
unless true x o h = (cc)
unless false x o h = refl

pub joining-free : (w : World) (p : List ℕ) (now slots : ℕ) (r : Record) → is_joining r ≡ true → refusal_by w p now slots r ≡ None → is_busy (children_at p w.branches) ≡ false
joining-free w p now slots (New n x) j h = (cc)
joining-free w p now slots (Ready n x) j h = (cc)
joining-free w p now slots (Pausing n x since until) j h = (cc)
joining-free w p now slots (Again n x since uses until) j h = (cc)
joining-free w p now slots (Forked n x since uses items) j h = unless (is_busy (children_at p w.branches)) _ (refusal_if_full w) h
joining-free w p now slots (Done x) j h = (cc)
joining-free w p now slots (Failed e) j h = (cc)

pub joining-ready : (w : World) (p : List ℕ) (now slots : ℕ) (r : Record) → is_joining r ≡ true → is_busy (children_at p w.branches) ≡ false → length w.events ≤ 24992 → refusal_by w p now slots r ≡ None
joining-ready w p now slots (New n x) j h room = (cc)
joining-ready w p now slots (Ready n x) j h room = (cc)
joining-ready w p now slots (Pausing n x since until) j h room = (cc)
joining-ready w p now slots (Again n x since uses until) j h room = (cc)
joining-ready w p now slots (Forked n x since uses items) j h room = rw h (with-room w room)
joining-ready w p now slots (Done x) j h room = (cc)
joining-ready w p now slots (Failed e) j h room = (cc)

pub joining-goes : (r : Record) → is_joining r ≡ true → (is_done r ≡ false) × (is_failed r ≡ false)
joining-goes (New n x) j = (cc)
joining-goes (Ready n x) j = (cc)
joining-goes (Pausing n x since until) j = (cc)
joining-goes (Again n x since uses until) j = (cc)
joining-goes (Forked n x since uses items) j = (refl, refl)
joining-goes (Done x) j = (cc)
joining-goes (Failed e) j = (cc)

-- a branch at a place
pub record IsGoing (x : List ℕ) (bs : List Branch) (c : Record) : Type 0 where
  pub there : record_at x bs ≡ Some c
  pub undone : is_done c ≡ false
  pub whole : is_failed c ≡ false

pub the-record : (o : Option Record) → joins_in o ≡ true → (c : Record) × ((o ≡ Some c) × (is_joining c ≡ true))
the-record None h = (cc)
the-record (Some c) h = (c, (refl, h))

-- on the way to a branch that goes on is a child that goes on
pub child-going : (bs : List Branch) → IsRooted bs → (a : List ℕ) (i : ℕ) (rest : List ℕ) (m : Record) → IsGoing (a ++ i ∷ rest) bs m → (c : Record) × IsGoing (a ++ i ∷ []) bs c
child-going bs w a i [] m g = (m, g)
child-going bs w a i (j ∷ rest) m g =
    let same : (a ++ i ∷ []) ++ j ∷ rest ≡ a ++ i ∷ j ∷ rest = append_assoc a (i ∷ []) (j ∷ rest) in
    let some : is_some (record_at ((a ++ i ∷ []) ++ j ∷ rest) bs) ≡ true = subst (λ (z : List ℕ). is_some (record_at z bs) ≡ true) (sym same) (ap is_some g.there) in
    let x = the-record (record_at (a ++ i ∷ []) bs) (rooted-above bs w rest (a ++ i ∷ []) j some) in
    let y = joining-goes x.0 x.1.1 in
    (x.0, record { there = x.1.0; undone = y.0; whole = y.1 })

-- where the parent isn't busy though, some child has failed
some-failed : (rs : List Record) → is_busy rs ≡ false → (list_all is_done rs ≡ true → ⊥) → list_any is_failed rs ≡ true
some-failed rs h never = by (list_any is_failed rs) (list_all is_done rs) refl refl
  where
    by : (f d : Bool) → list_any is_failed rs ≡ f → list_all is_done rs ≡ d → list_any is_failed rs ≡ true
    by true d e g = e
    by false true e g = absurd (never g)
    by false false e g = let x : true ≡ false = rw (e, g) at h in absurd (cc)

pub going-fails : (bs : List Branch) (a : List ℕ) (i : ℕ) (c : Record) → IsGoing (a ++ i ∷ []) bs c → is_busy (children_at a bs) ≡ false → list_any is_failed (children_at a bs) ≡ true
going-fails bs a i c g h = some-failed (children_at a bs) h (λ all. both_ways (is_done c) g.undone (child-done a i c bs all g.there))

pub not-done : (m : Record) → not (is_done m) ≡ true → is_done m ≡ false
not-done m h = by (is_done m) refl h
  where
    by : (b : Bool) → is_done m ≡ b → not b ≡ true → is_done m ≡ false
    by true e h = (cc)
    by false e h = e

pub ready-going : (s : Setup) (u : World) (q : List ℕ) (now : ℕ) (m : Record) → IsReady s u q now m → IsGoing q u.branches m
ready-going s u q now m h = record { there = h.there; undone = not-done m (undone-by u q now (slots_at s u q) m h.ready); whole = unfinished-by u q now (slots_at s u q) m h.ready }

pub going-at : (bs : List Branch) (x y : List ℕ) (c : Record) → x ≡ y → IsGoing x bs c → IsGoing y bs c
going-at bs x y c e g = subst (λ (z : List ℕ). IsGoing z bs c) e g

pub not-busy : (rs : List Record) → list_any is_failed rs ≡ true → is_busy rs ≡ false
not-busy rs h = rw h refl

-- ---- no branch goes on under it

pub none-under : (s : Setup) (u : World) (p q : List ℕ) (r m : Record) (e : Effect) → IsPending s u p r e → is_stopped q u.branches ≡ false → IsGoing q u.branches m → is_prefix p q ≡ true → is_prefix q p ≡ false → ⊥
none-under s u p q r m e w apart here a b =
    let d = below p q a b in
    let i = d.0 in
    let rest = d.1.0 in
    let bs = u.branches in
    let free : is_stopped (p ++ i ∷ rest) bs ≡ false = subst (λ (z : List ℕ). is_stopped z bs ≡ false) d.1.1 apart in
    let g : IsGoing (p ++ i ∷ rest) bs m = going-at bs q (p ++ i ∷ rest) m d.1.1 here in
    let c = child-going bs w.rooted p i rest m g in
    let joins : is_joining r ≡ true = rw w.there at (rooted-above bs w.rooted rest p i (ap is_some g.there)) in
    let failed = going-fails bs p i c.0 c.1 (joining-free u p u.last (slots_at s u p) r joins w.ready) in
    both_ways (is_stopped (p ++ i ∷ rest) bs) free (failed-stops p i rest c.0 bs w.each c.1.there c.1.whole failed)

-- ---- some branch may step at once

pub root-free : (bs : List Branch) → is_stopped [] bs ≡ false
root-free [] = refl
root-free (b ∷ bs) = by (is_failed b.current) b.place (root-free bs)
  where
    by : (f : Bool) (x : List ℕ) → is_stopped [] bs ≡ false → ((f && is_beside [] x) || is_stopped [] bs) ≡ false
    by true [] more = more
    by true (i ∷ x) more = more
    by false x more = more

pub record Someone (s : Setup) (u : World) : Type 0 where
  pub place : List ℕ
  pub current : Record
  pub ready : IsReady s u place u.last current

module _ (s : Setup) (u : World) (running : is_over u.outcome ≡ false) (early : Rattle.asl_run_state.specs.World.is_late u.last u.deadline ≡ false) (untold : u.events ≡ []) (rooted : IsRooted u.branches) where
  parent : (x : List ℕ) → is_stopped x u.branches ≡ false → joins_at x u.branches ≡ true → list_any is_failed (children_at x u.branches) ≡ true → Someone s u
  parent x free joins failed =
      let c = the-record (record_at x u.branches) joins in
      record {
        place = x;
        current = c.0;
        ready = record {
          running = running;
          early = early;
          there = c.1.0;
          free = free;
          ready = joining-ready u x u.last (slots_at s u x) c.0 c.1.1 (not-busy (children_at x u.branches) failed) (rw untold (omega arith));
        };
      }

  -- the branch that waits for what stops this one
  pub stopper : (rest x : List ℕ) → is_stopped x u.branches ≡ false → is_stopped (x ++ rest) u.branches ≡ true → is_some (record_at (x ++ rest) u.branches) ≡ true → Someone s u
  stopper [] x free stopped there = absurd (both_ways (is_stopped x u.branches) free (subst (λ (z : List ℕ). is_stopped z u.branches ≡ true) (append-nil x) stopped))
  stopper (i ∷ rest) x free stopped there = by (is_stopped (x ++ i ∷ []) u.branches) refl (stopper rest (x ++ i ∷ []))
    where
      same : (x ++ i ∷ []) ++ rest ≡ x ++ i ∷ rest
      same = append_assoc x (i ∷ []) rest

      by : (c : Bool) → is_stopped (x ++ i ∷ []) u.branches ≡ c → (is_stopped (x ++ i ∷ []) u.branches ≡ false → is_stopped ((x ++ i ∷ []) ++ rest) u.branches ≡ true → is_some (record_at ((x ++ i ∷ []) ++ rest) u.branches) ≡ true → Someone s u) → Someone s u
      by true e more = parent x free (rooted-above u.branches rooted rest x i there) (stopped-by-child x i u.branches e free)
      by false e more = more e (subst (λ (z : List ℕ). is_stopped z u.branches ≡ true) (sym same) stopped) (subst (λ (z : List ℕ). is_some (record_at z u.branches) ≡ true) (sym same) there)

pub someone : (s : Setup) (u : World) (p : List ℕ) (r : Record) (e : Effect) → IsPending s u p r e → Someone s u
someone s u p r e w = by (is_stopped p u.branches) refl
  where
    by : (c : Bool) → is_stopped p u.branches ≡ c → Someone s u
    by false free = record { place = p; current = r; ready = record { running = w.running; early = w.early; there = w.there; free = free; ready = w.ready } }
    by true stopped = stopper s u w.running w.early w.untold w.rooted p [] (root-free u.branches) stopped (ap is_some w.there)

-- at the present moment it isn't too early
pub ready-due : (w : World) (p : List ℕ) (slots : ℕ) (r : Record) → refusal_by w p w.last slots r ≡ None → due_from w.last r ≡ w.last
ready-due w p slots (New n x) h = refl
ready-due w p slots (Ready n x) h = refl
ready-due w p slots (Pausing n x since until) h = let l = ltb-false w.last until (unless (nat_lt w.last until) _ (refusal_if_full w) h) in omega (arith, l)
ready-due w p slots (Again n x since uses until) h = let l = ltb-false w.last until (unless (nat_lt w.last until) _ (refusal_if_full w) h) in omega (arith, l)
ready-due w p slots (Forked n x since uses items) h = refl
ready-due w p slots (Done x) h = refl
ready-due w p slots (Failed e) h = refl
