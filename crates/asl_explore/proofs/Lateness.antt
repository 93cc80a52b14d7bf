-- Outcomes that come only where a branch is late.
use Rattle.std.proofs.Common.{ℕ, suc, zero, ◌≡◌, ◌⊎◌, inl, inr, ◌<◌, ◌≤◌, ◌+◌, ◌++◌, ◌∙◌, ap, sym, refl, subst, arith, Bool, true, false, List, [], ◌∷◌, length, get_or}
use Rattle.std.specs.Prelude.{nat_lt}
use Rattle.std.specs.List.{All, Contains}
use Rattle.std.proofs.lemmas.Bool.Decides.{nat_tests}
use Rattle.std.proofs.lemmas.List.{get_or_read, get_or_push, length-append}
use Rattle.std.proofs.lemmas.List.Elements.{All-push, All-tail, Contains-append_left}
use Rattle.asl_run_state.specs.World.{World, is_over}
use Rattle.asl_run_state.proofs.Bareness.{outcome_eq, outcome-one, outcome-refl}
use Rattle.asl_run_state.specs.declared.outcome.Outcome.{Outcome}
use Rattle.asl_run_input.specs.declared.setup.Setup.{Setup}
use Rattle.asl_run_input.specs.declared.step_at.StepAt.{StepAt}
use Rattle.asl_exec.specs.Steps.{opening, step, world_after}
use Rattle.asl_explore.specs.declared.found.Found.{Found}
use Rattle.asl_explore.specs.declared.orders.Orders.TheVariants.{Prompt}
use Rattle.asl_explore.specs.Orders.{due, timed, places_of, after_order, AreTried, IsWhole}
use Rattle.asl_explore.specs.Searches.{Shows, IsMissing, IsNumbered, IsLateOutcome, IsPromptOutcome, ComesPromptly, AreOver, AreLate, AreAllLate, AreAllListed, outcomes_of}

-- the outcome of the next number is put behind the others
pub numbered-more : (P : Outcome → Type 0) (fs : List Found) (ns : List ℕ) (i : ℕ) (f : Found) → i < length fs → f ≡ get_or fs i f → P f.outcome → All (IsNumbered P fs) ns → All (IsNumbered P fs) (ns ++ (i + 1) ∷ [])
numbered-more P fs ns i f l e p all = All-push (IsNumbered P fs) ns (i + 1) all (subst (IsNumbered P fs) next here)
  where
    here : IsNumbered P fs (suc i)
    here = (l, λ d. subst (λ (x : Found). P x.outcome) (get_or_read fs i f l e d) p)

    next : suc i ≡ i + 1
    next = omega arith

late-is : (s : Setup) (gs : List Found) (o : Outcome) → is_over o ≡ true → IsWhole Prompt s (outcomes_of gs) → IsMissing gs o → IsLateOutcome s o
late-is s gs o over whole missing ps tried e =
    let c : Contains (outcomes_of gs) o = subst (Contains (outcomes_of gs)) e (whole ps tried (ap is_over e ∙ over)) in
    missing c.0 o c.1 c.2

late-at : (s : Setup) (fs gs : List Found) (n : ℕ) → AreOver fs → IsWhole Prompt s (outcomes_of gs) → IsNumbered (IsMissing gs) fs n → IsNumbered (IsLateOutcome s) fs n
late-at s fs gs zero over whole h = absurd h
late-at s fs gs (suc i) over whole h = (h.0, λ d. late-is s gs (get_or fs i d).outcome (over i d h.0) whole (h.1 d))

-- what no search of the orders in which no branch is late found, comes in none of them
pub all-late : (s : Setup) (fs gs : List Found) (ns : List ℕ) → AreOver fs → IsWhole Prompt s (outcomes_of gs) → All (IsNumbered (IsMissing gs) fs) ns → AreLate s fs ns
all-late s fs gs ns over whole h k d l = late-at s fs gs (get_or ns k d) over whole (h k d l)

-- ---- none of them is left out

-- so it is of the first ones
abbrev pub AreListedBefore : List Found → List Found → ℕ → List ℕ → Type 0
AreListedBefore gs fs n ns = (i : ℕ) → i < n → ((d : Found) → IsMissing gs (get_or fs i d).outcome) → Contains ns (suc i)

-- the next one is put behind the others
pub listed-more : (gs fs : List Found) (ns : List ℕ) (i : ℕ) → AreListedBefore gs fs i ns → AreListedBefore gs fs (i + 1) (ns ++ (i + 1) ∷ [])
listed-more gs fs ns i h j l missing = by (nat_lt j i) refl
  where
    by : (c : Bool) → nat_lt j i ≡ c → Contains (ns ++ (i + 1) ∷ []) (suc j)
    by true e = Contains-append_left ns ((i + 1) ∷ []) (suc j) (h j (grind (arith, nat_tests, e)) missing)
    by false e =
        let g : i ≤ j = grind (arith, nat_tests, e) in
        let is : i + 1 ≡ suc j = omega (arith, g, l) in
        (length ns, omega (arith, length-append ns ((i + 1) ∷ [])), get_or_push ns (i + 1) (suc j) (length ns) refl ∙ is)

-- it is among the others
pub listed-not : (gs fs : List Found) (ns : List ℕ) (i : ℕ) (f : Found) → i < length fs → f ≡ get_or fs i f → Contains (outcomes_of gs) f.outcome → AreListedBefore gs fs i ns → AreListedBefore gs fs (i + 1) ns
listed-not gs fs ns i f lt e c h j l missing = by (nat_lt j i) refl
  where
    by : (b : Bool) → nat_lt j i ≡ b → Contains ns (suc j)
    by true q = h j (grind (arith, nat_tests, q)) missing
    by false q =
        let g : i ≤ j = grind (arith, nat_tests, q) in
        let is : i ≡ j = omega (arith, g, l) in
        let m : IsMissing gs f.outcome = subst (λ (x : Found). IsMissing gs x.outcome) (ap (λ (k : ℕ). get_or fs k f) (sym is) ∙ sym e) (missing f) in
        absurd (m c.0 f.outcome c.1 c.2)

-- ---- each that comes in no order in which no branch is late is listed

-- the world to which steps at the earliest moments lead is that of their places
timed-after : (s : Setup) (w : World) (ps : List (List ℕ)) → world_after s w (timed s w ps) ≡ after_order s w ps
timed-after s w [] = refl
timed-after s w (p ∷ ps) = timed-after s (step s w p (due w p)) ps

-- steps of such an order end in this outcome
pub promptly-is : (s : Setup) (l : List StepAt) (o : Outcome) → l ≡ timed s (opening s) (places_of l) → AreTried Prompt s (opening s) (places_of l) → (world_after s (opening s) l).outcome ≡ o → IsPromptOutcome s o
promptly-is s l o e tried ends = record {
  places = places_of l;
  tried = tried;
  ends = sym (ap (λ (w : World). w.outcome) (ap (world_after s (opening s)) e ∙ timed-after s (opening s) (places_of l))) ∙ ends;
}

prompt-at : (s : Setup) (gs : List Found) (k : ℕ) (d : Found) (o : Outcome) → Shows Prompt s (get_or gs k d) → (get_or gs k d).outcome ≡ o → IsPromptOutcome s o
prompt-at s gs k d o h e = promptly-is s (get_or gs k d).steps.items o h.timed h.tried (h.gives ∙ e)

missing-more : (g : Found) (gs : List Found) (o : Outcome) → outcome_eq g.outcome o ≡ false → IsMissing gs o → IsMissing (g ∷ gs) o
missing-more g gs o e h zero d l q =
    let r : outcome_eq g.outcome o ≡ true = subst (λ (z : Outcome). outcome_eq g.outcome z ≡ true) q (outcome-refl g.outcome) in
    let x : true ≡ false = sym r ∙ e in absurd (cc)
missing-more g gs o e h (suc k) d l q = h k d (omega (arith, l)) q

-- what a search of such orders found comes in one of them
found-prompt : (s : Setup) (gs : List Found) (o : Outcome) → All (Shows Prompt s) gs → IsPromptOutcome s o ⊎ IsMissing gs o
found-prompt s [] o shown = inr (λ k d l. absurd (omega (arith, l)))
found-prompt s (g ∷ gs) o shown = by (outcome_eq g.outcome o) refl (found-prompt s gs o (All-tail (Shows Prompt s) g gs shown))
  where
    by : (b : Bool) → outcome_eq g.outcome o ≡ b → IsPromptOutcome s o ⊎ IsMissing gs o → IsPromptOutcome s o ⊎ IsMissing (g ∷ gs) o
    by true e more = inl (prompt-at s (g ∷ gs) 0 g o (shown 0 g (omega arith)) (outcome-one g.outcome o e))
    by false e (inl h) = inl h
    by false e (inr h) = inr (missing-more g gs o e h)

-- none is listed, where each comes in such an order
pub none-late : (s : Setup) (fs : List Found) (ns : List ℕ) → All (ComesPromptly s) fs → AreAllLate s fs ns
none-late s [] ns prompt i l late = absurd (omega (arith, l))
none-late s (f ∷ fs) ns prompt i l late = let h = prompt i f l in absurd (late f h.places h.tried h.ends)

-- each that isn't found is listed
pub all-listed : (s : Setup) (fs gs : List Found) (ns : List ℕ) → All (Shows Prompt s) gs → AreAllListed gs fs ns → AreAllLate s fs ns
all-listed s fs gs ns shown all i l late = all i l (λ d. by d (found-prompt s gs (get_or fs i d).outcome shown))
  where
    by : (d : Found) → IsPromptOutcome s (get_or fs i d).outcome ⊎ IsMissing gs (get_or fs i d).outcome → IsMissing gs (get_or fs i d).outcome
    by d (inl h) = absurd (late d h.places h.tried h.ends)
    by d (inr h) = h
