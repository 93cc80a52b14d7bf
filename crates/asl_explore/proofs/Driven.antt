-- A driven run is an order in which no branch is late, so a search lists its outcome.
use Rattle.std.proofs.Common.{ℕ, zero, suc, ◌≡◌, ◌<◌, ◌≤◌, ◌⊎◌, inl, inr, ◌∙◌, ap, sym, refl, subst, arith, Bool, true, false, List, [], ◌∷◌, max, min, cond, Option, Some, None}
use Rattle.std.specs.Prelude.{is_some, is_none, nat_lt, IsSome}
use Rattle.std.specs.List.{Contains}
use Rattle.std.proofs.lemmas.Bool.{cond_both}
use Rattle.std.proofs.lemmas.Bool.Decides.{nat_tests}
use Rattle.asl_step.specs.declared.record.Record.{Record}
use Rattle.asl_step.specs.declared.record.Record.TheVariants.{New, Ready, Pausing, Again, Forked, Done, Failed}
use Rattle.asl_run_branches.specs.Branches.{Branch, record_at, same_place, forker_at, is_busy, children_at}
use Rattle.asl_run_branches.specs.Earliest.{due_from}
use Rattle.asl_run_branches.specs.Turns.{Limits, limit_of, is_crowded}
use Rattle.asl_run_branches.proofs.Linking.{same-eq}
use Rattle.asl_run_state.specs.Bare.{bare}
use Rattle.asl_run_state.specs.Picking.{refusal_with, first_of, first_at, awaited_by, lesser, least_of, Moment}
use Rattle.asl_run_state.specs.Refusals.{is_full, refusal_if_full, refusal_by, refusal_of}
use Rattle.asl_run_state.specs.World.{World, is_over, is_late, timed_out}
use Rattle.asl_run_state.specs.declared.outcome.Outcome.TheVariants.{TimedOut}
use Rattle.asl_run_state.specs.declared.refusal.Refusal.{Refusal}
use Rattle.asl_run_state.specs.declared.refusal.Refusal.TheVariants.{NotYet}
use Rattle.asl_run_state.proofs.Picks.{full-is}
use Rattle.asl_run_input.specs.declared.setup.Setup.{Setup}
use Rattle.asl_exec.specs.Driving.{Chosen, chosen_by, chosen, after, driven}
use Rattle.asl_exec.specs.Steps.{limits_in, refusal_in, moved_on, stepped, step, opening, deadline_of}
use Rattle.asl_exec.proofs.Accepting.{step_late}
use Rattle.asl_exec.proofs.Going.{slots_at, IsReady, ready-if}
use Rattle.asl_exec_swap_laws.proofs.Inline.{ready-due}
use Rattle.asl_explore.specs.declared.orders.Orders.{Orders}
use Rattle.asl_explore.specs.declared.orders.Orders.TheVariants.{Every, Prompt}
use Rattle.asl_explore.specs.Laws.{DrivenIsListed}
use Rattle.asl_explore.specs.Orders.{due_of, due, after_order, MayStep, IsPrompt, AreTried}
use Rattle.asl_explore.proofs.AnyMoment.{all-tried}
use Rattle.asl_explore.proofs.Bare.{bare-accepts}
use Rattle.asl_explore.proofs.Orderly.{due-least}

-- ---- places that are refused, and the moments that they wait for

-- the first place that isn't refused isn't
first-is : (l : Limits) (w : World) (t : ℕ) (bs : List Branch) (p : List ℕ) → first_of l w t bs ≡ Some p → refusal_with l w p t ≡ None
first-is l w t [] p h = (cc)
first-is l w t (b ∷ bs) p h = by (refusal_with l w b.place t) refl (first-is l w t bs p)
  where
    by : (o : Option Refusal) → refusal_with l w b.place t ≡ o → (first_of l w t bs ≡ Some p → refusal_with l w p t ≡ None) → refusal_with l w p t ≡ None
    by None e more =
        let x : Some b.place ≡ Some p = rw e at h in
        let same : b.place ≡ p = cc (x) in
        subst (λ (q : List ℕ). refusal_with l w q t ≡ None) same e
    by (Some r) e more = more (rw e at h)

-- where there is none, each branch is refused
none-first : (l : Limits) (w : World) (t : ℕ) (bs : List Branch) (p : List ℕ) (r : Record) → first_of l w t bs ≡ None → record_at p bs ≡ Some r → refusal_with l w p t ≡ None → ⊥
none-first l w t [] p r h e a = (cc)
none-first l w t (b ∷ bs) p r h e a = by (same_place p b.place) (refusal_with l w b.place t) refl refl (none-first l w t bs p r)
  where
    by : (c : Bool) (o : Option Refusal) → same_place p b.place ≡ c → refusal_with l w b.place t ≡ o → (first_of l w t bs ≡ None → record_at p bs ≡ Some r → refusal_with l w p t ≡ None → ⊥) → ⊥
    by c None es eo more = let x : Some b.place ≡ None = rw eo at h in (cc)
    by true (Some f) es eo more =
        let same : p ≡ b.place = same-eq p b.place es in
        let x : Some f ≡ None = sym eo ∙ subst (λ (q : List ℕ). refusal_with l w q t ≡ None) same a in (cc)
    by false (Some f) es eo more = more (rw eo at h) (rw es at e) a

-- the least moment that is waited for isn't later than that of a branch
lesser-left : (a : ℕ) (o : Option ℕ) → (m : ℕ) × ((lesser (Some a) o ≡ Some m) × (m ≤ a))
lesser-left a None = (a, (refl, omega arith))
lesser-left a (Some b) = (min a b, (refl, omega arith))

lesser-right : (o : Option ℕ) (a : ℕ) → (m : ℕ) × ((lesser o (Some a) ≡ Some m) × (m ≤ a))
lesser-right None a = (a, (refl, omega arith))
lesser-right (Some b) a = (min b a, (refl, omega arith))

lesser-so : (o : Option ℕ) (b : Option ℕ) (k a : ℕ) → b ≡ Some k → k ≤ a → (m : ℕ) × ((lesser o b ≡ Some m) × (m ≤ a))
lesser-so o b k a e le =
    let x = lesser-right o k in
    let l = x.1.1 in
    (x.0, (ap (lesser o) e ∙ x.1.0, omega (arith, l, le)))

least-is : (l : Limits) (w : World) (bs : List Branch) (p : List ℕ) (r : Record) (a : ℕ) → record_at p bs ≡ Some r → awaited_by (refusal_with l w p w.last) ≡ Some a → (m : ℕ) × ((least_of l w bs ≡ Some m) × (m ≤ a))
least-is l w [] p r a e h = (cc)
least-is l w (b ∷ bs) p r a e h = by (same_place p b.place) refl (least-is l w bs p r a)
  where
    by : (c : Bool) → same_place p b.place ≡ c → (record_at p bs ≡ Some r → awaited_by (refusal_with l w p w.last) ≡ Some a → (m : ℕ) × ((least_of l w bs ≡ Some m) × (m ≤ a))) → (m : ℕ) × ((least_of l w (b ∷ bs) ≡ Some m) × (m ≤ a))
    by true es more =
        let same : p ≡ b.place = same-eq p b.place es in
        let h' : awaited_by (refusal_with l w b.place w.last) ≡ Some a = subst (λ (q : List ℕ). awaited_by (refusal_with l w q w.last) ≡ Some a) same h in
        let x = lesser-left a (least_of l w bs) in
        (x.0, (ap (λ (o : Option ℕ). lesser o (least_of l w bs)) h' ∙ x.1.0, x.1.1))
    by false es more =
        let x = more (rw es at e) h in
        lesser-so (awaited_by (refusal_with l w b.place w.last)) (least_of l w bs) x.0 a x.1.0 x.1.1

-- ---- a branch that may step later on, and not at once

unless : (b : Bool) (x : Refusal) (o : Option Refusal) → cond b (Some x) o ≡ None → b ≡ false
unless true x o h = (cc)
unless false x o h = refl

-- it is refused now, until then
record WaitsFor (s : Setup) (w : World) (q : List ℕ) (t : ℕ) (r : Record) : Type 0 where
  awaits : awaited_by (refusal_in s w q w.last) ≡ Some (due_from w.last r)
  later : w.last < due_from w.last r
  by_then : due_from w.last r ≤ max w.last t

module _ (s : Setup) (w : World) (q : List ℕ) (t : ℕ) (r : Record) (h : IsReady s (bare w) q (max w.last t) r) (room : refusal_if_full w ≡ None) (refused : refusal_in s w q w.last ≡ None → ⊥) where
  -- it would be accepted now
  at-last : refusal_by w q w.last (slots_at s w q) r ≡ None → is_late (max w.last w.last) w.deadline ≡ false → refusal_in s w q w.last ≡ None
  unfolding refusal_of
  at-last a early =
      let now : max w.last w.last ≡ w.last = omega arith in
      rw (h.running, early, h.there, h.free, now) a

  -- else why not
  why : (f : Refusal) → refusal_by w q w.last (slots_at s w q) r ≡ Some f → is_late (max w.last w.last) w.deadline ≡ false → refusal_in s w q w.last ≡ Some f
  unfolding refusal_of
  why f a early =
      let now : max w.last w.last ≡ w.last = omega arith in
      rw (h.running, early, h.there, h.free, now) a

  too-late : is_late (max w.last w.last) w.deadline ≡ true → refusal_in s w q w.last ≡ None
  unfolding refusal_of
  too-late l = rw (h.running, l) refl

  early-now : is_late (max w.last w.last) w.deadline ≡ false
  early-now = by (is_late (max w.last w.last) w.deadline) refl
    where
      by : (c : Bool) → is_late (max w.last w.last) w.deadline ≡ c → is_late (max w.last w.last) w.deadline ≡ false
      by true e = absurd (refused (too-late e))
      by false e = e

  never : refusal_by w q w.last (slots_at s w q) r ≡ None → ⊥
  never a = refused (at-last a early-now)

  paused : (until : ℕ) → due_from w.last r ≡ max w.last until → refusal_by w q w.last (slots_at s w q) r ≡ cond (nat_lt w.last until) (Some (NotYet until)) (refusal_if_full w) → nat_lt (max w.last t) until ≡ false → WaitsFor s w q t r
  paused until d is ready = by (nat_lt w.last until) refl
    where
      by : (c : Bool) → nat_lt w.last until ≡ c → WaitsFor s w q t r
      by true e =
          let l : w.last < until = grind (arith, nat_tests, e) in
          let g : until ≤ max w.last t = grind (arith, nat_tests, ready) in
          let m : due_from w.last r ≡ until = omega (arith, d, l) in
          record {
            awaits = ap awaited_by (why (NotYet until) (is ∙ rw e refl) early-now) ∙ ap Some (sym m);
            later = omega (arith, m, l);
            by_then = omega (arith, m, g);
          }
      by false e = absurd (never (is ∙ rw e room))

  waits-for : WaitsFor s w q t r
  waits-for = by r refl h.ready
    where
      by : (k : Record) → r ≡ k → refusal_by (bare w) q (max w.last t) (slots_at s (bare w) q) k ≡ None → WaitsFor s w q t r
      by (New n x) e a = absurd (never (ap (refusal_by w q w.last (slots_at s w q)) e ∙ rw (unless (is_crowded (slots_at s w q) q w.branches) _ _ a) room))
      by (Ready n x) e a = absurd (never (ap (refusal_by w q w.last (slots_at s w q)) e ∙ room))
      by (Pausing n x since until) e a = paused until (ap (due_from w.last) e) (ap (refusal_by w q w.last (slots_at s w q)) e) (unless (nat_lt (max w.last t) until) _ _ a)
      by (Again n x since uses until) e a = paused until (ap (due_from w.last) e) (ap (refusal_by w q w.last (slots_at s w q)) e) (unless (nat_lt (max w.last t) until) _ _ a)
      by (Forked n x since uses items) e a = absurd (never (ap (refusal_by w q w.last (slots_at s w q)) e ∙ rw (unless (is_busy (children_at q w.branches)) _ _ a) room))
      by (Done x) e a = (cc)
      by (Failed f) e a = (cc)

-- ---- the step that comes next

-- it is one of a prompt order, or the execution's time is over then
abbrev IsNext : Setup → World → List ℕ → ℕ → Type 0
IsNext s w p t = (is_late (max w.last t) w.deadline ≡ true) ⊎ (IsPrompt s w p × (due w p ≡ t))

bare-so : (s : Setup) (w : World) (p : List ℕ) (t : ℕ) → refusal_in s w p t ≡ None → refusal_in s (bare w) p t ≡ None
bare-so s w p t h = bare-accepts w p t (limit_of (limits_in s.machine) (forker_at p w.branches)) h

-- a place that may step at once
at-once : (s : Setup) (w : World) (p : List ℕ) → first_at (limits_in s.machine) w w.last ≡ Some p → IsNext s w p w.last
at-once s w p h = by (is_late (max w.last w.last) w.deadline) refl
  where
    accepted : refusal_in s w p w.last ≡ None
    accepted = first-is (limits_in s.machine) w w.last w.branches p h

    by : (c : Bool) → is_late (max w.last w.last) w.deadline ≡ c → IsNext s w p w.last
    by true e = inl e
    by false e =
        let x = ready-if s w p w.last accepted e in
        let now : max w.last w.last ≡ w.last = omega arith in
        let ready : refusal_by w p w.last (slots_at s w p) x.0 ≡ None = subst (λ (t : ℕ). refusal_by w p t (slots_at s w p) x.0 ≡ None) now x.1.ready in
        let d : due w p ≡ w.last = ap (due_of w.last) x.1.there ∙ ready-due w p (slots_at s w p) x.0 ready in
        inr (
          (
            (ap is_some x.1.there, subst (λ (t : ℕ). refusal_in s (bare w) p t ≡ None) (sym d) (bare-so s w p w.last accepted)),
            λ q may. let l = due-least w.last (record_at q w.branches) in omega (arith, d, l),
          ),
          d,
        )

late-by : (now t : ℕ) (d : Option ℕ) → is_late now d ≡ true → (m : ℕ) × ((d ≡ Some m) × (m ≤ now))
late-by now t None h = (cc)
late-by now t (Some m) h = (m, (refl, grind (arith, nat_tests, h)))

module _ (s : Setup) (w : World) (room : refusal_if_full w ≡ None) (none : first_at (limits_in s.machine) w w.last ≡ None) (t : ℕ) (least : lesser (least_of (limits_in s.machine) w w.branches) w.deadline ≡ Some t) where
  -- a branch that may step at some moment waits for it
  waits : (q : List ℕ) (k : ℕ) (r : Record) → IsReady s (bare w) q (max w.last k) r → WaitsFor s w q k r
  waits q k r h = waits-for s w q k r h room (λ a. none-first (limits_in s.machine) w w.last w.branches q r none h.there a)

  no-sooner : (a : ℕ) → (m : ℕ) × ((least_of (limits_in s.machine) w w.branches ≡ Some m) × (m ≤ a)) → t ≤ a
  no-sooner a x = by w.deadline least
    where
      by : (d : Option ℕ) → lesser (least_of (limits_in s.machine) w w.branches) d ≡ Some t → t ≤ a
      by None e =
          let z : Some x.0 ≡ Some t = sym (ap (λ (o : Option ℕ). lesser o None) x.1.0) ∙ e in
          let same : x.0 ≡ t = cc (z) in
          let l = x.1.1 in omega (arith, same, l)
      by (Some d) e =
          let z : Some (min x.0 d) ≡ Some t = sym (ap (λ (o : Option ℕ). lesser o (Some d)) x.1.0) ∙ e in
          let same : min x.0 d ≡ t = cc (z) in
          let l = x.1.1 in omega (arith, same, l)

  -- so at no earlier moment one may step
  before-none : (q : List ℕ) → MayStep s (bare w) q → t ≤ due w q
  before-none q may = by (is_late (max w.last (due w q)) w.deadline) refl
    where
      by : (c : Bool) → is_late (max w.last (due w q)) w.deadline ≡ c → t ≤ due w q
      by true e =
          let x = late-by (max w.last (due w q)) t w.deadline e in
          let y = lesser-so (least_of (limits_in s.machine) w w.branches) w.deadline x.0 (max w.last (due w q)) x.1.0 x.1.1 in
          let z : Some t ≡ Some y.0 = sym least ∙ y.1.0 in
          let same : t ≡ y.0 = cc (z) in
          let l = y.1.1 in
          let g = due-least w.last (record_at q w.branches) in
          omega (arith, same, l, g)
      by false e =
          let x = ready-if s (bare w) q (due w q) may.1 e in
          let v = waits q (due w q) x.0 x.1 in
          let d : due w q ≡ due_from w.last x.0 = ap (due_of w.last) x.1.there in
          let l = no-sooner (due_from w.last x.0) (least-is (limits_in s.machine) w w.branches q x.0 (due_from w.last x.0) x.1.there v.awaits) in
          omega (arith, d, l)

  -- a place that may step then
  then-next : (p : List ℕ) → first_at (limits_in s.machine) w t ≡ Some p → IsNext s w p t
  then-next p h = by (is_late (max w.last t) w.deadline) refl
    where
      accepted : refusal_in s w p t ≡ None
      accepted = first-is (limits_in s.machine) w t w.branches p h

      by : (c : Bool) → is_late (max w.last t) w.deadline ≡ c → IsNext s w p t
      by true e = inl e
      by false e =
          let b = bare-so s w p t accepted in
          let x = ready-if s (bare w) p t b e in
          let v = waits p t x.0 x.1 in
          let l = no-sooner (due_from w.last x.0) (least-is (limits_in s.machine) w w.branches p x.0 (due_from w.last x.0) x.1.there v.awaits) in
          let later = v.later in
          let by_then = v.by_then in
          let d : due w p ≡ t = ap (due_of w.last) x.1.there ∙ omega (arith, l, later, by_then) in
          inr (
            (
              (ap is_some x.1.there, subst (λ (k : ℕ). refusal_in s (bare w) p k ≡ None) (sym d) b),
              λ q may. let g = before-none q may in omega (arith, d, g),
            ),
            d,
          )

next-so : (s : Setup) (w : World) (x : Chosen) → chosen s w ≡ Some x → IsNext s w x.0 x.1
next-so s w x h = by (is_over w.outcome) (is_full w) (first_at (limits_in s.machine) w w.last) (lesser (least_of (limits_in s.machine) w w.branches) w.deadline) refl refl refl refl
  where
    l : Limits
    l = limits_in s.machine

    so : (p : List ℕ) (t : ℕ) → (p, t) ≡ x → IsNext s w p t → IsNext s w x.0 x.1
    so p t e n = subst (λ (z : Chosen). IsNext s w z.0 z.1) e n

    moment : (t : ℕ) (o : Option (List ℕ)) → refusal_if_full w ≡ None → first_at l w w.last ≡ None → lesser (least_of l w w.branches) w.deadline ≡ Some t → first_at l w t ≡ o → chosen_by l w (Moment t) ≡ Some x → IsNext s w x.0 x.1
    moment t None room none least e c = let z : None ≡ Some x = rw e at c in (cc)
    moment t (Some p) room none least e c =
        let z : Some (p, t) ≡ Some x = rw e at c in
        let same : (p, t) ≡ x = cc (z) in
        so p t same (then-next s w room none t least p e)

    by : (o f : Bool) (a : Option (List ℕ)) (m : Option ℕ) → is_over w.outcome ≡ o → is_full w ≡ f → first_at l w w.last ≡ a → lesser (least_of l w w.branches) w.deadline ≡ m → IsNext s w x.0 x.1
    by true f a m eo ef ea em = let z : None ≡ Some x = rw eo at h in (cc)
    by false true a m eo ef ea em = let z : None ≡ Some x = rw (eo, ef) at h in (cc)
    by false false (Some p) m eo ef ea em =
        let z : Some (p, w.last) ≡ Some x = rw (eo, ef, ea) at h in
        let same : (p, w.last) ≡ x = cc (z) in
        so p w.last same (at-once s w p ea)
    by false false None None eo ef ea em = let z : None ≡ Some x = rw (eo, ef, ea, em) at h in (cc)
    by false false None (Some t) eo ef ea em = moment t (first_at l w t) (full-is w ef) ea em refl (rw (eo, ef, ea, em) at h)

-- ---- so all of them

deadline-moved : (s : Setup) (w : World) (p : List ℕ) (now : ℕ) (o : Option Record) → (moved_on s w p now o).deadline ≡ w.deadline
deadline-moved s w p now None = refl
deadline-moved s w p now (Some r) = refl

deadline-stays : (s : Setup) (w : World) (p : List ℕ) (t : ℕ) → (step s w p t).deadline ≡ w.deadline
unfolding step
deadline-stays s w p t =
    let P : World → Type 0 = λ u. u.deadline ≡ w.deadline in
    let now = max w.last t in
    cond_both (is_none (refusal_in s w p t)) (stepped s w p now) w P
    (λ _. cond_both (is_late now w.deadline) (timed_out now w) (moved_on s w p now (record_at p w.branches)) P (λ _. refl) (λ _. deadline-moved s w p now (record_at p w.branches)))
    (λ _. refl)

chosen-over : (s : Setup) (w : World) → is_over w.outcome ≡ true → chosen s w ≡ None
chosen-over s w o = rw o refl

chosen-accepted : (s : Setup) (w : World) (p : List ℕ) (t : ℕ) → is_over w.outcome ≡ false → is_late (max w.last t) w.deadline ≡ true → refusal_in s w p t ≡ None
unfolding refusal_of
chosen-accepted s w p t o l = rw (o, l) refl

driven-over : (n : ℕ) (s : Setup) (w : World) → is_over w.outcome ≡ true → driven n s w ≡ w
driven-over zero s w o = refl
driven-over (suc n) s w o = ap (λ (c : Option Chosen). driven n s (after s w c)) (chosen-over s w o) ∙ driven-over n s w o

-- the same order; or the time is over
pub record IsOrder (n : ℕ) (s : Setup) (w : World) : Type 0 where
  pub places : List (List ℕ)
  pub tried : AreTried Prompt s w places
  pub ends : after_order s w places ≡ driven n s w

abbrev IsRun : ℕ → Setup → World → Type 0
IsRun n s w = IsOrder n s w ⊎ (((driven n s w).outcome ≡ TimedOut) × IsSome w.deadline)

is-some : (d : Option ℕ) (now : ℕ) → is_late now d ≡ true → IsSome d
is-some None now h = (cc)
is-some (Some m) now h = refl

driven-order : (n : ℕ) (s : Setup) (w : World) → IsRun n s w
driven-order zero s w = inl (record { places = []; tried = tt; ends = refl })
driven-order (suc n) s w = by (chosen s w) refl (driven-order n s)
  where
    More : Type 0
    More = (v : World) → IsRun n s v

    -- what comes next is x
    at : (c : Option Chosen) → chosen s w ≡ c → (v : World) → after s w c ≡ v → driven (suc n) s w ≡ driven n s v
    at c e v q = ap (λ (o : Option Chosen). driven n s (after s w o)) e ∙ ap (driven n s) q

    prompt : (x : Chosen) → chosen s w ≡ Some x → IsPrompt s w x.0 → due w x.0 ≡ x.1 → IsRun n s (step s w x.0 (due w x.0)) → IsRun (suc n) s w
    prompt x e p d (inl r) = inl (record {
      places = x.0 ∷ r.places;
      tried = (p, r.tried);
      ends = r.ends ∙ sym (at (Some x) e (step s w x.0 (due w x.0)) (ap (step s w x.0) (sym d)));
    })
    prompt x e p d (inr r) = inr (
      ap (λ (v : World). v.outcome) (at (Some x) e (step s w x.0 (due w x.0)) (ap (step s w x.0) (sym d))) ∙ r.0,
      subst IsSome (deadline-stays s w x.0 (due w x.0)) r.1,
    )

    late : (o : Bool) → is_over w.outcome ≡ o → (x : Chosen) → chosen s w ≡ Some x → is_late (max w.last x.1) w.deadline ≡ true → IsRun (suc n) s w
    late true o x e l = let z : None ≡ Some x = sym (chosen-over s w o) ∙ e in (cc)
    late false o x e l =
        let v = timed_out (max w.last x.1) w in
        let is : step s w x.0 x.1 ≡ v = step_late s w x.0 x.1 (chosen-accepted s w x.0 x.1 o l) l in
        inr (ap (λ (u : World). u.outcome) (at (Some x) e v is ∙ driven-over n s v refl), is-some w.deadline (max w.last x.1) l)

    next : (x : Chosen) → chosen s w ≡ Some x → IsNext s w x.0 x.1 → More → IsRun (suc n) s w
    next x e (inl l) more = late (is_over w.outcome) refl x e l
    next x e (inr p) more = prompt x e p.0 p.1 (more (step s w x.0 (due w x.0)))

    stays : chosen s w ≡ None → IsRun n s w → IsRun (suc n) s w
    stays e (inl r) = inl (record { places = r.places; tried = r.tried; ends = r.ends ∙ sym (at None e w refl) })
    stays e (inr r) = inr (ap (λ (v : World). v.outcome) (at None e w refl) ∙ r.0, r.1)

    by : (c : Option Chosen) → chosen s w ≡ c → More → IsRun (suc n) s w
    by None e more = stays e (more w)
    by (Some x) e more = next x e (next-so s w x e) more

tried-by : (o : Orders) (s : Setup) (w : World) (ps : List (List ℕ)) → AreTried Prompt s w ps → AreTried o s w ps
tried-by Every s w ps t = all-tried s w ps
tried-by Prompt s w ps t = t

pub driven-listed : DrivenIsListed
driven-listed o s os n whole over = by (driven-order n s (opening s))
  where
    v : World
    v = driven n s (opening s)

    by : IsRun n s (opening s) → Contains os v.outcome ⊎ ((v.outcome ≡ TimedOut) × IsSome (deadline_of s))
    by (inl r) =
        let e = ap (λ (w : World). w.outcome) r.ends in
        inl (subst (Contains os) e (whole r.places (tried-by o s (opening s) r.places r.tried) (ap is_over e ∙ over)))
    by (inr r) = inr r
