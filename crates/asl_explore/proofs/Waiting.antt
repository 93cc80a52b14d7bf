-- Where no branch ever waits, every order is one in which no branch is late.
use Rattle.std.proofs.Common.{ℕ, ◌≡◌, ◌<◌, ◌≤◌, ◌⊎◌, inl, inr, Bool, true, false, List, [], ◌∷◌, ◌++◌, refl, sym, ◌∙◌, ap, subst, arith, length, max, Some, None, Option}
use Rattle.std.specs.Prelude.{is_some, is_none, nat_lt}
use Rattle.std.specs.List.{Contains}
use Rattle.std.proofs.lemmas.Bool.{cond_both, both_ways}
use Rattle.std.proofs.lemmas.Bool.Decides.{nat_tests}
use Rattle.std.proofs.lemmas.List.{get_or_read}
use Rattle.asl_history.specs.Places.{is_prefix}
use Rattle.asl_step.specs.Records.{is_done, is_failed}
use Rattle.asl_step.specs.declared.effect.Effect.{Effect}
use Rattle.asl_step.specs.declared.record.Record.{Record}
use Rattle.asl_step.specs.declared.record.Record.TheVariants.{New, Ready, Pausing, Again, Forked, Done, Failed}
use Rattle.asl_run_branches.specs.Branches.{record_at, forker_at}
use Rattle.asl_run_branches.specs.Earliest.{due_from}
use Rattle.asl_run_branches.specs.Turns.{limit_of}
use Rattle.asl_run_state.specs.Bare.{bare}
use Rattle.asl_run_state.specs.World.{World, is_over, is_late, timed_out}
use Rattle.asl_run_state.specs.declared.outcome.Outcome.{Outcome}
use Rattle.asl_run_state.specs.declared.refusal.Refusal.{Refusal}
use Rattle.asl_run_input.specs.declared.setup.Setup.{Setup}
use Rattle.asl_exec.specs.Steps.{limits_in, refusal_in, moved_on, stepped, step, opening, deadline_of}
use Rattle.asl_exec.proofs.Accepting.{step_refused}
use Rattle.asl_exec.proofs.Going.{IsReady, ready-if}
use Rattle.asl_exec_swap_laws.proofs.Fewer.{not-stopped}
use Rattle.asl_exec_swap_laws.proofs.Leaving.{record-stays}
use Rattle.asl_exec_swap_laws.proofs.Rooted.{is_joining, rooted-above, below}
use Rattle.asl_exec_swap_laws.proofs.Rooting.{one-place}
use Rattle.asl_exec_swap_laws.proofs.Pending.{IsPending, ahead, none-over}
use Rattle.asl_exec_swap_laws.proofs.Inline.{none-under, ready-due}
use Rattle.asl_explore.specs.declared.orders.Orders.TheVariants.{Every, Prompt}
use Rattle.asl_explore.specs.Orders.{due_of, due, after_order, IsPrompt, AreTried, IsWhole}
use Rattle.asl_explore.specs.Searches.{IsMet, AreTakenOn, Waits, NoneWaits}
use Rattle.asl_explore.proofs.Bare.{bare-accepts, over-refuses, step-bare}
use Rattle.asl_explore.specs.Settled.{most_invocations}
use Rattle.asl_explore.proofs.Asking.{asks-bare, HasRoom, Spent, spent}
use Rattle.asl_explore.proofs.Carrying.{go, after_bare, ArePrompt, asks}
use Rattle.asl_explore.proofs.Calm.{KeepsOn}
use Rattle.asl_explore.proofs.Orderly.{due-least}
use Rattle.asl_explore.proofs.Reduced.{good-opening, ends-so, taken-whole}

-- ---- a quiet step keeps a branch waiting

-- a branch that waits goes on, and waits for no others
pub record IsPausing (m : Record) : Type 0 where
  pub alone : is_joining m ≡ false
  pub undone : is_done m ≡ false
  pub whole : is_failed m ≡ false

pausing-is : (last : ℕ) (m : Record) → last < due_from last m → IsPausing m
pausing-is last (New n x) h = absurd (omega (arith, h))
pausing-is last (Ready n x) h = absurd (omega (arith, h))
pausing-is last (Pausing n x since until) h = record { alone = refl; undone = refl; whole = refl }
pausing-is last (Again n x since uses until) h = record { alone = refl; undone = refl; whole = refl }
pausing-is last (Forked n x since uses items) h = absurd (omega (arith, h))
pausing-is last (Done x) h = absurd (omega (arith, h))
pausing-is last (Failed e) h = absurd (omega (arith, h))

waits-ahead : (s : Setup) (u : World) (p : List ℕ) (r : Record) (e : Effect) → KeepsOn e → IsPending s u p r e → Waits u → Waits (ahead s u p r e)
waits-ahead s u p r e calm w z = by (is_prefix p q) (is_prefix q p) refl refl
  where
    q : List ℕ
    q = z.place

    m : Record
    m = z.current

    is : IsPausing m
    is = pausing-is u.last m z.waits

    itself : p ≡ q → ⊥
    itself same =
        let there : record_at p u.branches ≡ Some m = subst (λ (x : List ℕ). record_at x u.branches ≡ Some m) (sym same) z.there in
        let some : Some m ≡ Some r = sym there ∙ w.there in
        let one : m ≡ r = cc in
        let d = ready-due u p _ r w.ready in
        let l : u.last < due_from u.last r = subst (λ (x : Record). u.last < due_from u.last x) one z.waits in
        omega (arith, d, l)

    above : is_prefix q p ≡ true → is_prefix p q ≡ false → ⊥
    above a b =
        let d = below q p a b in
        let some : is_some (record_at (q ++ d.0 ∷ d.1.0) u.branches) ≡ true = subst (λ (x : List ℕ). is_some (record_at x u.branches) ≡ true) d.1.1 (ap is_some w.there) in
        let joins : is_joining m ≡ true = rw z.there at (rooted-above u.branches w.rooted d.1.0 q d.0 some) in
        both_ways (is_joining m) is.alone joins

    by : (b c : Bool) → is_prefix p q ≡ b → is_prefix q p ≡ c → Waits (ahead s u p r e)
    by true true x y = absurd (itself (one-place p q x y))
    by true false x y = absurd (none-under s u p q r m e w z.free (record { there = z.there; undone = is.undone; whole = is.whole }) x y)
    by false true x y = absurd (above y x)
    by false false x y = record {
      place = q;
      current = m;
      there = record-stays p e.after e.children q u.branches x ∙ z.there;
      free = not-stopped p q e.after e.children u.branches x calm.whole z.free;
      waits = z.waits;
    }

-- ---- no branch ever waits

-- whatever prompt order follows that invokes services b times at most
abbrev pub NeverWaits : Setup → World → ℕ → Type 0
NeverWaits s w b = (ps : List (List ℕ)) → ArePrompt s (bare w) ps → asks s (bare w) ps ≤ b → is_over (after_bare s (bare w) ps).outcome ≡ false → Waits (after_bare s (bare w) ps) → ⊥

pub never-waits : (s : Setup) (ws : List World) (os : List Outcome) → IsMet ws os (opening s) → AreTakenOn Prompt s ws os (length ws) → NoneWaits ws → NeverWaits s (opening s) most_invocations
never-waits s ws os m all none ps prompt few running waits =
    let E : World → Type 0 = λ w. (is_over w.outcome ≡ false) × Waits w in
    let c : Contains ws (bare (opening s)) = m.runs refl in
    ends-so s ws os E ⊥ 0
    (λ w ds like e. (e.0, record { place = e.1.place; current = e.1.current; there = e.1.there; free = e.1.free; waits = e.1.waits }))
    (λ w v k e. both_ways (is_over w.outcome) e.0 v)
    (λ i lt w at v e. none i lt w (subst Waits (sym (at w)) e.1))
    (λ p r e calm u pending held f. (ap is_over (none-over e.outcome calm.silent u.outcome) ∙ f.0, waits-ahead s u p r e calm pending f.1))
    all c.0 c.1 (bare (opening s)) (λ d. sym (get_or_read ws c.0 (bare (opening s)) c.1 (sym c.2) d)) (good-opening s) refl ps prompt (omega (arith, few)) (running, waits)

-- ---- so every step is prompt, or refused

timeless-moved : (s : Setup) (w : World) (p : List ℕ) (now : ℕ) (o : Option Record) → w.deadline ≡ None → (moved_on s w p now o).deadline ≡ None
timeless-moved s w p now None h = h
timeless-moved s w p now (Some r) h = h

timeless : (s : Setup) (w : World) (p : List ℕ) (t : ℕ) → w.deadline ≡ None → (step s w p t).deadline ≡ None
unfolding step
timeless s w p t h =
    let P : World → Type 0 = λ u. u.deadline ≡ None in
    let now = max w.last t in
    cond_both (is_none (refusal_in s w p t)) (stepped s w p now) w P
    (λ _. cond_both (is_late now w.deadline) (timed_out now w) (moved_on s w p now (record_at p w.branches)) P (λ _. h) (λ _. timeless-moved s w p now (record_at p w.branches) h))
    (λ _. h)

-- the same order, without the steps that are refused
pub record Tried (s : Setup) (w : World) (ps : List (List ℕ)) : Type 0 where
  pub places : List (List ℕ)
  pub tried : AreTried Prompt s w places
  pub ends : after_order s w places ≡ after_order s w ps

module _ (s : Setup) (w : World) (p : List ℕ) (none : w.deadline ≡ None) (b : ℕ) (never : NeverWaits s w b) (accepted : refusal_in s w p (due w p) ≡ None) where
  early : is_late (max w.last (due w p)) w.deadline ≡ false
  early = rw none refl

  running : is_over w.outcome ≡ false
  running = by (is_over w.outcome) refl
    where
      by : (b : Bool) → is_over w.outcome ≡ b → is_over w.outcome ≡ false
      by true e = absurd (both_ways _ (over-refuses w p (due w p) (limit_of (limits_in s.machine) (forker_at p w.branches)) e) (ap is_none accepted))
      by false e = e

  at-last : due w p ≡ w.last
  at-last = by (nat_lt w.last (due w p)) refl
    where
      x : (r : Record) × IsReady s w p (max w.last (due w p)) r
      x = ready-if s w p (due w p) accepted early

      by : (b : Bool) → nat_lt w.last (due w p) ≡ b → due w p ≡ w.last
      by true e =
          let l : w.last < due w p = grind (arith, nat_tests, e) in
          let d : due w p ≡ due_from w.last x.0 = ap (due_of w.last) x.1.there in
          absurd (never [] tt (omega arith) running (record { place = p; current = x.0; there = x.1.there; free = x.1.free; waits = omega (arith, l, d) }))
      by false e =
          let l : due w p ≤ w.last = grind (arith, nat_tests, e) in
          let g = due-least w.last (record_at p w.branches) in
          omega (arith, l, g)

  prompt : IsPrompt s w p
  prompt =
      let x = ready-if s w p (due w p) accepted early in
      let e = at-last in (
        (ap is_some x.1.there, bare-accepts w p (due w p) (limit_of (limits_in s.machine) (forker_at p w.branches)) accepted),
        λ q may. let l = due-least w.last (record_at q w.branches) in omega (arith, e, l),
      )

  never-next : (v : Spent s w p b) → bare (step s w p (due w p)) ≡ go s (bare w) p → NeverWaits s (step s w p (due w p)) v.rest
  never-next v is ps tried few run waits =
      let parts = v.parts in
      let first = asks-bare s w p in
      let others : asks s (go s (bare w) p) ps ≤ v.rest = subst (λ (z : World). asks s z ps ≤ v.rest) is few in
      never (p ∷ ps) (prompt, subst (λ (z : World). ArePrompt s z ps) is tried) (omega (arith, parts, first, others))
      (subst (λ (z : World). is_over (after_bare s z ps).outcome ≡ false) is run)
      (subst (λ (z : World). Waits (after_bare s z ps)) is waits)

unmoved : (s : Setup) (w v : World) (ps : List (List ℕ)) → v ≡ w → Tried s v ps → Tried s w ps
unmoved s w v ps e x = subst (λ (z : World). Tried s z ps) e x

pub all-tried : (s : Setup) (ps : List (List ℕ)) (w : World) (b : ℕ) → HasRoom w b → w.deadline ≡ None → NeverWaits s w b → Tried s w ps
all-tried s [] w b room none never = record { places = []; tried = tt; ends = refl }
all-tried s (p ∷ ps) w b room none never = by (refusal_in s w p (due w p)) refl (all-tried s ps)
  where
    v : World
    v = step s w p (due w p)

    More : Type 0
    More = (w : World) (b : ℕ) → HasRoom w b → w.deadline ≡ None → NeverWaits s w b → Tried s w ps

    refused : v ≡ w → Tried s v ps → Tried s w (p ∷ ps)
    refused e x = let y = unmoved s w v ps e x in record { places = y.places; tried = y.tried; ends = y.ends ∙ ap (λ (z : World). after_order s z ps) (sym e) }

    taken : IsPrompt s w p → Tried s v ps → Tried s w (p ∷ ps)
    taken prompt x = record { places = p ∷ x.places; tried = (prompt, x.tried); ends = x.ends }

    still : v ≡ w → More → Tried s w (p ∷ ps)
    still e more =
        refused e (more v b (subst (λ (z : World). HasRoom z b) (sym e) room) (timeless s w p (due w p) none) (subst (λ (z : World). NeverWaits s z b) (sym e) never))

    split : refusal_in s w p (due w p) ≡ None → (v ≡ w) ⊎ (bare v ≡ bare (step s (bare w) p (due w p))) → More → Tried s w (p ∷ ps)
    split a (inl e) more = still e more
    split a (inr e) more =
        let x = spent s w p a b room in
        taken (prompt s w p none b never a) (more v x.rest x.room (timeless s w p (due w p) none) (never-next s w p none b never a x e))

    by : (o : Option Refusal) → refusal_in s w p (due w p) ≡ o → More → Tried s w (p ∷ ps)
    by None a more = split a (step-bare s w p (due w p)) more
    by (Some f) a more = still (step_refused s w p (due w p) (ap is_none a)) more

-- what is left out in no prompt order, is in none
pub every-whole : (s : Setup) (ws : List World) (os : List Outcome) → IsMet ws os (opening s) → AreTakenOn Prompt s ws os (length ws) → NoneWaits ws → deadline_of s ≡ None → IsWhole Every s os
every-whole s ws os m all none limit ps tried ends =
    let x = all-tried s ps (opening s) most_invocations (omega arith) limit (never-waits s ws os m all none) in
    let o = ap (λ (w : World). w.outcome) x.ends in
    subst (Contains os) o (taken-whole Prompt s ws os m all x.places x.tried (ap is_over o ∙ ends))
