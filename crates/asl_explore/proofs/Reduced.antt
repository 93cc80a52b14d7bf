-- A search that expanded worlds by quiet steps alone, each to a world of a higher number, left out nothing.
use Rattle.std.proofs.Common.{ℕ, zero, suc, ◌≡◌, ◌<◌, ◌≤◌, ◌+◌, ◌⊎◌, inl, inr, Bool, true, false, List, [], ◌∷◌, refl, sym, ◌∙◌, ap, subst, arith, length, get_or, max, Some, None, Option}
use Rattle.std.specs.Prelude.{is_none, unwrap_or}
use Rattle.std.specs.List.{Contains}
use Rattle.std.specs.Option.{option_and_then}
use Rattle.std.proofs.lemmas.Bool.{cond_both, both_ways}
use Rattle.std.proofs.lemmas.List.{get_or_read}
use Rattle.asl_json_data.specs.Data.{Data}
use Rattle.asl_def.specs.Machines.{state_object}
use Rattle.asl_step.specs.declared.effect.Effect.{Effect}
use Rattle.asl_step.specs.declared.record.Record.{Record}
use Rattle.asl_step.specs.Records.{state_in}
use Rattle.asl_step_reads.specs.Reading.{reads}
use Rattle.asl_step_reads.specs.Steps.{token_keys}
use Rattle.asl_run_branches.specs.Branches.{record_at}
use Rattle.asl_run_branches.specs.Turns.{limit_of}
use Rattle.asl_run_branches.specs.Branches.{forker_at}
use Rattle.asl_run_state.specs.Bare.{bare}
use Rattle.asl_run_state.specs.World.{World, is_over, is_late, timed_out, count_of}
use Rattle.asl_run_state.specs.declared.refusal.Refusal.{Refusal}
use Rattle.asl_run_state.specs.declared.outcome.Outcome.{Outcome}
use Rattle.asl_run_input.specs.declared.setup.Setup.{Setup}
use Rattle.asl_exec.specs.Exchanges.{IsOneEach}
use Rattle.asl_exec.specs.Steps.{number_in, limits_in, refusal_in, moved_on, stepped, step, opening}
use Rattle.asl_exec.proofs.Accepting.{step_refused}
use Rattle.asl_exec.proofs.Going.{does, GoesOn, so-goes, step-is}
use Rattle.asl_exec_swap_laws.proofs.OneEach.{one-each, one-stepped}
use Rattle.asl_exec_swap_laws.proofs.Rooted.{IsRooted}
use Rattle.asl_exec_swap_laws.proofs.Pending.{IsPending, ahead, none-over, rooted-next, each-next}
use Rattle.asl_explore.specs.declared.orders.Orders.{Orders}
use Rattle.asl_explore.specs.declared.orders.Orders.TheVariants.{Every, Prompt}
use Rattle.asl_explore.specs.Orders.{due, after_order, AreTried, IsWhole}
use Rattle.asl_explore.specs.Settled.{most_invocations}
use Rattle.asl_explore.specs.Searches.{IsMet, IsExpanded, IsCalm, IsReduced, IsTakenOn, AreTakenOn}
use Rattle.asl_explore.proofs.Bare.{step-bare, over-refuses}
use Rattle.asl_explore.proofs.Steady.{AreLike}
use Rattle.asl_explore.proofs.Asking.{asks-bare, HasRoom, Spent, spent}
use Rattle.asl_explore.proofs.Carrying.{with_counts, go, after_bare, ArePrompt, asks}
use Rattle.asl_explore.proofs.Calm.{KeepsOn, IsHeldFor}
use Rattle.asl_explore.proofs.Orderly.{quiet-first}
use Rattle.asl_explore.proofs.Whole.{closed-whole}

-- ---- what holds of each world without its history

pub record IsGood (w : World) : Type 0 where
  pub untold : w.events ≡ []
  pub rooted : IsRooted w.branches
  pub each : IsOneEach w.branches

rooted-moved : (s : Setup) (w : World) (p : List ℕ) (now : ℕ) (o : Option Record) → record_at p w.branches ≡ o → IsRooted w.branches → IsRooted (moved_on s w p now o).branches
rooted-moved s w p now None e h = h
rooted-moved s w p now (Some r) e h = rooted-next s w p now r e h

rooted-stepped : (s : Setup) (w : World) (p : List ℕ) (t : ℕ) → IsRooted w.branches → IsRooted (step s w p t).branches
unfolding step
rooted-stepped s w p t h =
    let P : World → Type 0 = λ u. IsRooted u.branches in
    let now = max w.last t in
    cond_both (is_none (refusal_in s w p t)) (stepped s w p now) w P
    (λ _. cond_both (is_late now w.deadline) (timed_out now w) (moved_on s w p now (record_at p w.branches)) P (λ _. h) (λ _. rooted-moved s w p now (record_at p w.branches) refl h))
    (λ _. h)

good-go : (s : Setup) (w : World) (p : List ℕ) → IsGood w → IsGood (go s w p)
good-go s w p g = record { untold = refl; rooted = rooted-stepped s w p (due w p) g.rooted; each = one-stepped s w p (due w p) g.each }

pub good-opening : (s : Setup) → IsGood (bare (opening s))
good-opening s = record { untold = refl; rooted = alone; each = one-each s [] }
  where
    alone : IsRooted (opening s).branches
    alone [] i h = (cc)
    alone (j ∷ x) i h = (cc)

-- ---- without histories

-- the same order, without the steps that are refused since the history is full; it invokes services b times at most
pub record Plain (s : Setup) (w : World) (ps : List (List ℕ)) (b : ℕ) : Type 0 where
  pub places : List (List ℕ)
  pub prompt : ArePrompt s (bare w) places
  pub ends : bare (after_order s w ps) ≡ after_bare s (bare w) places
  pub few : asks s (bare w) places ≤ b

pub plain : (s : Setup) (w : World) (ps : List (List ℕ)) (b : ℕ) → HasRoom w b → AreTried Prompt s w ps → Plain s w ps b
plain s w [] b room t = record { places = []; prompt = tt; ends = refl; few = omega arith }
plain s w (p ∷ ps) b room t = by (refusal_in s w p (due w p)) refl (step-bare s w p (due w p)) (plain s (step s w p (due w p)) ps)
  where
    -- the step was refused
    unmoved : step s w p (due w p) ≡ w → Plain s (step s w p (due w p)) ps b → Plain s w (p ∷ ps) b
    unmoved e x = record {
      places = x.places;
      prompt = subst (λ (z : World). ArePrompt s (bare z) x.places) e x.prompt;
      ends = x.ends ∙ ap (λ (z : World). after_bare s (bare z) x.places) e;
      few = subst (λ (z : World). asks s (bare z) x.places ≤ b) e x.few;
    }

    -- it was taken
    taken : bare (step s w p (due w p)) ≡ bare (step s (bare w) p (due w p)) → (v : Spent s w p b) → Plain s (step s w p (due w p)) ps v.rest → Plain s w (p ∷ ps) b
    taken e v x =
        let parts = v.parts in
        let first = asks-bare s w p in
        let few : asks s (go s (bare w) p) x.places ≤ v.rest = subst (λ (z : World). asks s z x.places ≤ v.rest) e x.few in
        record {
          places = p ∷ x.places;
          prompt = (t.0, subst (λ (z : World). ArePrompt s z x.places) e x.prompt);
          ends = x.ends ∙ ap (λ (z : World). after_bare s z x.places) e;
          few = omega (arith, parts, first, few);
        }

    still : step s w p (due w p) ≡ w → ((c : ℕ) → HasRoom (step s w p (due w p)) c → AreTried Prompt s (step s w p (due w p)) ps → Plain s (step s w p (due w p)) ps c) → Plain s w (p ∷ ps) b
    still e more = unmoved e (more b (subst (λ (z : World). HasRoom z b) (sym e) room) t.1)

    by : (o : Option Refusal) → refusal_in s w p (due w p) ≡ o → (step s w p (due w p) ≡ w) ⊎ (bare (step s w p (due w p)) ≡ bare (step s (bare w) p (due w p)))
        → ((c : ℕ) → HasRoom (step s w p (due w p)) c → AreTried Prompt s (step s w p (due w p)) ps → Plain s (step s w p (due w p)) ps c) → Plain s w (p ∷ ps) b
    by o a (inl e) more = still e more
    by None a (inr e) more = let v = spent s w p a b room in taken e v (more v.rest v.room t.1)
    by (Some f) a (inr e) more = still (step_refused s w p (due w p) (ap is_none a)) more

-- ---- each order ends as is wanted

over-still : (s : Setup) (w : World) (ps : List (List ℕ)) → is_over w.outcome ≡ true → ArePrompt s w ps → ps ≡ []
over-still s w [] o t = refl
over-still s w (p ∷ ps) o t =
    let x : is_none (refusal_in s (bare w) p (due w p)) ≡ true = ap is_none t.0.0.1 in
    absurd (both_ways _ (over-refuses (bare w) p (due w p) (limit_of (limits_in s.machine) (forker_at p w.branches)) o) x)

-- where its state is settled, a branch is held for all invocations of an execution
held-so : (s : Setup) (w : World) (r : Record) (b : ℕ) → b ≤ most_invocations → IsCalm s w r → IsHeldFor s w r b
held-so s w r b le (inl mute) = inl mute
held-so s w r b le (inr x) =
    let c = count_of w.counts (number_in s.machine r) in
    let few : b ≤ 8333 = le in
    let room : c ≤ 1665 = x.room in
    let one = x.settled.answers in
    inr (record {
      answers = λ i j li ih lj jh. one i li (omega (arith, ih, room, few)) ∙ sym (one j lj (omega (arith, jh, room, few)));
      unread = λ d is. unread-so (state_in r) (x.settled.unread) d is;
    })
  where
    unread-so : (o : Option (List ℕ)) → ((d : Data) → state_object (unwrap_or o []) s.machine ≡ Some d → reads token_keys d ≡ false) → (d : Data) → option_and_then (λ n. state_object n s.machine) o ≡ Some d → reads token_keys d ≡ false
    unread-so None f d is = (cc)
    unread-so (Some n) f d is = f d is

module _ (s : Setup) (ws : List World) (os : List Outcome) (E : World → Type 0) (R : Type 0) (spare : ℕ)
    (blind : (w : World) (ds : List ℕ) → AreLike s spare w.counts ds → E w → E (with_counts ds w))
    (over : (w : World) → is_over w.outcome ≡ true → Contains os w.outcome → E w → R)
    (runs : (i : ℕ) → i < length ws → (w : World) → ((d : World) → get_or ws i d ≡ w) → is_over w.outcome ≡ false → E w → R)
    (closed : (p : List ℕ) (r : Record) (e : Effect) → KeepsOn e → (u : World) → IsPending s u p r e → IsHeldFor s u r spare → E u → E (ahead s u p r e))
    (all : (i : ℕ) → i < length ws → (d : World) → IsTakenOn Prompt s ws os i (get_or ws i d)) where
  -- from the worlds that were met, k of which have at least this number, by orders of at most n steps, which with so many more invoke services no more often than an execution can
  abbrev Ends : ℕ → ℕ → Type 0
  Ends n k = (i : ℕ) → i < length ws → length ws ≤ i + k → (w : World) → ((d : World) → get_or ws i d ≡ w) → IsGood w → is_over w.outcome ≡ false
      → (ps : List (List ℕ)) → length ps ≤ n → ArePrompt s w ps → asks s w ps + spare ≤ most_invocations → E (after_bare s w ps) → R

  abbrev Shorter : ℕ → Type 0
  Shorter n = (m : ℕ) → m < n → (k : ℕ) → Ends m k

  module _ (n : ℕ) (less : Shorter n) (i : ℕ) (lt : i < length ws) (w : World) (at : (d : World) → get_or ws i d ≡ w) (good : IsGood w) (running : is_over w.outcome ≡ false) where
    -- a world that is expanded wholly
    full : IsExpanded Prompt s ws os w → (ps : List (List ℕ)) → length ps ≤ n → ArePrompt s w ps → asks s w ps + spare ≤ most_invocations → E (after_bare s w ps) → R
    full x [] short prompt few ends = runs i lt w at running ends
    full x (p ∷ ps) short prompt few ends = by (is_over (step s w p (due w p)).outcome) refl
      where
        m : IsMet ws os (step s w p (due w p))
        m = x p prompt.0

        by : (c : Bool) → is_over (step s w p (due w p)).outcome ≡ c → R
        by true e = over (go s w p) e (m.ends e) (subst (λ (z : List (List ℕ)). E (after_bare s (go s w p) z)) (over-still s (go s w p) ps e prompt.1) ends)
        by false e =
            let c : Contains ws (go s w p) = m.runs e in
            less (length ps) (omega (arith, short)) (length ws) c.0 c.1 (omega arith) (go s w p) (λ d. sym (get_or_read ws c.0 (go s w p) c.1 (sym c.2) d)) (good-go s w p good) e ps (omega arith) prompt.1 (omega (arith, few)) ends

    -- one that is expanded by a quiet step
    reduced : (k : ℕ) → length ws ≤ i + suc k → Ends n k → IsReduced s ws i w → (ps : List (List ℕ)) → length ps ≤ n → ArePrompt s w ps → asks s w ps + spare ≤ most_invocations → E (after_bare s w ps) → R
    reduced k le more x ps short prompt few ends =
        let p = x.place in
        let same : max w.last w.last ≡ w.last = omega arith in
        let so = so-goes s w p w.last x.quiet.goes in
        let r = so.0 in
        let g : GoesOn s w p w.last r = subst (λ (t : ℕ). GoesOn s w p t r) same so.1 in
        let e = does s w p w.last r in
        let calm : KeepsOn e = record { silent = g.silent; whole = g.whole } in
        let held = held-so s w r (asks s w ps + spare) few (x.quiet.calm r g.is_ready.there) in
        let pending : IsPending s w p r e = record {
          running = running;
          early = g.is_ready.early;
          untold = good.untold;
          there = g.is_ready.there;
          ready = g.is_ready.ready;
          so = refl;
          rooted = good.rooted;
          each = good.each;
        } in
        let o = quiet-first s p r e calm E spare blind (closed p r e calm) ps w pending held prompt ends in
        let is : bare (step s w p w.last) ≡ ahead s w p r e = ap bare (step-is s w p w.last w.last r same g.is_ready).1 in
        let l = x.later in
        let j = o.short in
        let q = o.few in
        let still : is_over (ahead s w p r e).outcome ≡ false = ap is_over (none-over e.outcome calm.silent w.outcome) ∙ running in
        more x.next x.leads.0 (omega (arith, le, l)) (ahead s w p r e) (λ d. x.leads.1 d ∙ is)
        (record { untold = refl; rooted = rooted-next s w p w.last r g.is_ready.there good.rooted; each = each-next s w p w.last r good.each })
        still o.places (omega (arith, short, j)) o.prompt (omega (arith, few, q)) o.ends

  by-number : (n : ℕ) → Shorter n → (k : ℕ) → Ends n k
  by-number n less zero i lt le w at good running ps short prompt few ends = absurd (omega (arith, lt, le))
  by-number n less (suc k) i lt le w at good running ps short prompt few ends = by (subst (IsTakenOn Prompt s ws os i) (at w) (all i lt w)) (by-number n less k)
    where
      by : IsTakenOn Prompt s ws os i w → Ends n k → R
      by (inl x) more = full n less i lt w at good running x ps short prompt few ends
      by (inr x) more = reduced n less i lt w at good running k le more x.1 ps short prompt few ends

  by-length : (n : ℕ) → Shorter n
  by-length zero m lt k = absurd (omega (arith, lt))
  by-length (suc n) m lt k = by-number m (λ j l. by-length n j (omega (arith, lt, l))) k

  pub ends-so : (i : ℕ) → i < length ws → (w : World) → ((d : World) → get_or ws i d ≡ w) → IsGood w → is_over w.outcome ≡ false → (ps : List (List ℕ)) → ArePrompt s w ps → asks s w ps + spare ≤ most_invocations → E (after_bare s w ps) → R
  ends-so i lt w at good running ps prompt few ends = by-length (length ps + 1) (length ps) (omega arith) (length ws) i lt (omega arith) w at good running ps (omega arith) prompt few ends

-- ---- so nothing is left out

prompt-whole : (s : Setup) (ws : List World) (os : List Outcome) → IsMet ws os (opening s) → AreTakenOn Prompt s ws os (length ws) → IsWhole Prompt s os
prompt-whole s ws os m all ps tried ends =
    let o = (after_order s (opening s) ps).outcome in
    let E : World → Type 0 = λ w. (is_over w.outcome ≡ true) × (w.outcome ≡ o) in
    let x = plain s (opening s) ps most_invocations (omega arith) tried in
    let c : Contains ws (bare (opening s)) = m.runs refl in
    let last : E (after_bare s (bare (opening s)) x.places) = subst E x.ends (ends, refl) in
    let few = x.few in
    ends-so s ws os E (Contains os o) 0
    (λ w ds like e. e)
    (λ w v k e. subst (Contains os) e.1 k)
    (λ i lt w at v e. absurd (both_ways (is_over w.outcome) v e.0))
    (λ p r e quiet u pending held f. absurd (both_ways (is_over u.outcome) pending.running f.0))
    all c.0 c.1 (bare (opening s)) (λ d. sym (get_or_read ws c.0 (bare (opening s)) c.1 (sym c.2) d)) (good-opening s) refl x.places x.prompt (omega (arith, few)) last

every-expanded : (s : Setup) (ws : List World) (os : List Outcome) (i : ℕ) (w : World) → IsTakenOn Every s ws os i w → IsExpanded Every s ws os w
every-expanded s ws os i w (inl x) = x
every-expanded s ws os i w (inr x) = let e : Every ≡ Prompt = x.0 in absurd (cc)

pub taken-whole : (o : Orders) (s : Setup) (ws : List World) (os : List Outcome) → IsMet ws os (opening s) → AreTakenOn o s ws os (length ws) → IsWhole o s os
taken-whole Every s ws os m all = closed-whole Every s ws os m (λ k d l. every-expanded s ws os k (get_or ws k d) (all k l d))
taken-whole Prompt s ws os m all = prompt-whole s ws os m all
