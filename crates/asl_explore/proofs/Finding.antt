-- Outcomes that were found, and those that weren't.
use Rattle.std.proofs.Common.{ℕ, suc, zero, ◌≡◌, ◌<◌, ◌≤◌, ◌++◌, ◌∙◌, ap, sym, subst, arith, Bool, true, false, List, [], ◌∷◌, length, get_or}
use Rattle.std.specs.List.{All, AllWithin, Contains}
use Rattle.std.proofs.lemmas.List.{length-map, map-append, append-nil}
use Rattle.std.proofs.lemmas.List.Elements.{All-push}
use Rattle.asl_run_state.specs.World.{World, is_over}
use Rattle.asl_run_input.specs.declared.setup.Setup.{Setup}
use Rattle.asl_exec.specs.Steps.{opening, world_after}
use Rattle.asl_explore.proofs.Growing.{distinct-more}
use Rattle.asl_explore.specs.Orders.{timed, places_of, AreTried}
use Rattle.asl_run_state.proofs.Bareness.{outcome_eq, outcome-one, outcome-refl}
use Rattle.asl_run_state.specs.declared.outcome.Outcome.{Outcome}
use Rattle.asl_explore.specs.declared.found.Found.{Found}
use Rattle.asl_explore.specs.declared.orders.Orders.{Orders}
use Rattle.asl_explore.specs.Searches.{outcomes_of, Shows, AreDistinct, IsLater}

pub at-map : (fs : List Found) (i : ℕ) (f : Found) (e : Outcome) → i < length fs → f ≡ get_or fs i f → get_or (outcomes_of fs) i e ≡ f.outcome
at-map [] i f e l h = absurd (omega arith)
at-map (x ∷ fs) zero f e l h = ap (λ (z : Found). z.outcome) (sym h)
at-map (x ∷ fs) (suc i) f e l h = at-map fs i f e (omega arith) h

pub found-there : (fs : List Found) (i : ℕ) (f : Found) (o : Outcome) (b : Bool) → i < length fs → f ≡ get_or fs i f → b ≡ outcome_eq f.outcome o → b ≡ true → Contains (outcomes_of fs) o
found-there fs i f o b l h eb t = (i, omega (arith, length-map fs (λ (z : Found). z.outcome)), at-map fs i f o l h ∙ outcome-one f.outcome o (sym eb ∙ t))

abbrev pub Other : Outcome → Outcome → Type 0
Other o a = a ≡ o → ⊥

pub other-more : (fs : List Found) (i : ℕ) (f : Found) (o : Outcome) (b : Bool) → i < length fs → f ≡ get_or fs i f → b ≡ outcome_eq f.outcome o → b ≡ false → (d : Outcome) → Other o (get_or (outcomes_of fs) i d)
other-more fs i f o b l h eb t d e =
    let s : f.outcome ≡ o = sym (at-map fs i f d l h) ∙ e in
    let r : outcome_eq f.outcome o ≡ true = subst (λ (z : Outcome). outcome_eq f.outcome z ≡ true) s (outcome-refl f.outcome) in
    let x : true ≡ false = sym r ∙ sym eb ∙ t in (cc)

pub other-all : (fs : List Found) (i : ℕ) (o : Outcome) → length fs ≤ i → AllWithin (Other o) (outcomes_of fs) 0 i → All (Other o) (outcomes_of fs)
other-all fs i o l h k d lt = h k d (omega arith) (omega (arith, length-map fs (λ (z : Found). z.outcome)))

-- one that is put behind the others
pub outcomes-more : (fs gs : List Found) (f : Found) → gs ≡ fs ++ f ∷ [] → outcomes_of gs ≡ outcomes_of fs ++ f.outcome ∷ []
outcomes-more fs gs f e = ap outcomes_of e ∙ map-append (λ (z : Found). z.outcome) fs (f ∷ [])

pub later-found : (ws : List World) (fs gs : List Found) (f : Found) → gs ≡ fs ++ f ∷ [] → IsLater ws (outcomes_of fs) ws (outcomes_of gs)
later-found ws fs gs f e = record { more_worlds = []; more_outcomes = f.outcome ∷ []; worlds = sym (append-nil ws); outcomes = outcomes-more fs gs f e }

pub shown-more : (r : Orders) (s : Setup) (fs gs : List Found) (f : Found) (o reached : Outcome) (w : World) → gs ≡ fs ++ f ∷ [] → f.outcome ≡ o → is_over o ≡ true → w ≡ world_after s (opening s) f.steps.items → reached ≡ w.outcome → reached ≡ o → f.steps.items ≡ timed s (opening s) (places_of f.steps.items) → AreTried r s (opening s) (places_of f.steps.items) → All (Shows r s) fs → All (Shows r s) gs
shown-more r s fs gs f o reached w e eo over ew er same et tried all =
    subst (All (Shows r s)) (sym e) (All-push (Shows r s) fs f all (record {
      over = ap is_over eo ∙ over;
      gives = ap (λ (v : World). v.outcome) (sym ew) ∙ sym er ∙ same ∙ sym eo;
      timed = et;
      tried = tried;
    }))

pub once-more : (fs gs : List Found) (f : Found) (o : Outcome) → gs ≡ fs ++ f ∷ [] → f.outcome ≡ o → All (Other o) (outcomes_of fs) → AreDistinct (outcomes_of fs) → AreDistinct (outcomes_of gs)
once-more fs gs f o e eo new h = subst AreDistinct (sym (outcomes-more fs gs f e)) (distinct-more (outcomes_of fs) f.outcome h (subst (λ (z : Outcome). All (Other z) (outcomes_of fs)) (sym eo) new))
