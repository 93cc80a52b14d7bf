-- What is told of a search, with the outcome of a late step behind those that it found.
use Rattle.std.proofs.Common.{ℕ, ◌≡◌, ◌<◌, ◌⊎◌, inl, inr, ◌∙◌, ap, sym, subst, arith, true, false, List, [], ◌∷◌, length, get_or, Option, Some, None}
use Rattle.std.specs.Prelude.{IfSome}
use Rattle.std.specs.List.{All, Contains}
use Rattle.std.proofs.lemmas.List.{get_or_append_left, length-append}
use Rattle.std.proofs.lemmas.List.Elements.{Contains-append_left}
use Rattle.asl_def.specs.Machines.{state_count}
use Rattle.asl_run_state.specs.World.{World, is_over}
use Rattle.asl_run_state.specs.Bare.{bare}
use Rattle.asl_run_state.specs.declared.outcome.Outcome.{Outcome}
use Rattle.asl_run_input.specs.declared.setup.Setup.{Setup}
use Rattle.asl_run_input.specs.declared.step_at.StepAt.{StepAt}
use Rattle.asl_exec.specs.Steps.{opening}
use Rattle.asl_explore.specs.declared.calls.Calls.{Calls}
use Rattle.asl_explore.specs.declared.endless.Lasso.{Lasso}
use Rattle.asl_explore.specs.declared.found.Found.{Found}
use Rattle.asl_explore.specs.declared.orders.Orders.{Orders}
use Rattle.asl_explore.specs.declared.orders.Orders.TheVariants.{Every, Prompt}
use Rattle.asl_explore.specs.Calls.{AreCounted, IsCounted}
use Rattle.asl_explore.specs.Endless.{turning, AreTaken, IsLasso}
use Rattle.asl_explore.specs.Orders.{after_order, places_of, IsWhole, IsWholeTo, after_bare, go}
use Rattle.asl_explore.specs.Searches.{IsLater, Shows, AreOver}
use Rattle.asl_explore.specs.TimeOver.{IsWitnessed}
use Rattle.asl_explore.proofs.AnyMoment.{all-tried}

-- ---- one outcome more

contains-later : (ws vs : List World) (os us : List Outcome) (o : Outcome) → IsLater ws os vs us → Contains os o → Contains us o
contains-later ws vs os us o l c = subst (λ (xs : List Outcome). Contains xs o) (sym l.outcomes) (Contains-append_left os l.more_outcomes o c)

pub whole-later : (o : Orders) (s : Setup) (ws vs : List World) (os us : List Outcome) → IsLater ws os vs us → IsWhole o s os → IsWhole o s us
whole-later o s ws vs os us l h ps tried over = contains-later ws vs os us (after_order s (opening s) ps).outcome l (h ps tried over)

whole-to-later : (o : Orders) (s : Setup) (ws vs : List World) (os us : List Outcome) (d : ℕ) → IsLater ws os vs us → IsWholeTo d o s os → IsWholeTo d o s us
whole-to-later o s ws vs os us d l h = λ ps short tried over. contains-later ws vs os us (after_order s (opening s) ps).outcome l (h ps short tried over)

pub depth-later : (o : Orders) (s : Setup) (ws vs : List World) (os us : List Outcome) (depth : Option ℕ) → IsLater ws os vs us → IfSome depth (λ d. (o ≡ Every) × IsWholeTo d o s os) → IfSome depth (λ d. (o ≡ Every) × IsWholeTo d o s us)
depth-later o s ws vs os us None l h = tt
depth-later o s ws vs os us (Some d) l h = (h.0, whole-to-later o s ws vs os us d l h.1)

pub to-later : (o : Orders) (s : Setup) (ws vs : List World) (os us : List Outcome) (depth : Option ℕ) → IsLater ws os vs us → IfSome depth (λ d. (o ≡ Every) × IsWholeTo d o s os) → IfSome depth (λ d. IsWholeTo d o s us)
to-later o s ws vs os us None l h = tt
to-later o s ws vs os us (Some d) l h = whole-to-later o s ws vs os us d l h.1

one-counted : (n : ℕ) (ws vs : List World) (os us : List Outcome) (cs : List Calls) (o : Outcome) (counts : List ℕ) → IsLater ws os vs us → IsCounted n os cs o counts → IsCounted n us cs o counts
one-counted n ws vs os us cs o counts l h = record {
  number = h.number;
  there = let lt = h.there in omega (arith, lt, ap (length {A = Outcome}) l.outcomes, length-append os l.more_outcomes);
  outcome = λ d. ap (λ (xs : List Outcome). get_or xs h.number d) l.outcomes ∙ get_or_append_left os l.more_outcomes d h.number h.there ∙ h.outcome d;
  counted = h.counted;
  within = h.within;
}

pub counted-later : (o : Orders) (s : Setup) (ws vs : List World) (os us : List Outcome) (cs : List Calls) → IsLater ws os vs us → AreCounted o s os cs → AreCounted o s us cs
counted-later o s ws vs os us cs l h ps tried over =
    one-counted (state_count s.machine) ws vs os us cs (after_order s (opening s) ps).outcome (after_order s (opening s) ps).counts l (h ps tried over)

-- ---- outcomes that are shown

shown-over : (o : Orders) (s : Setup) (f : Found) → IsWitnessed o s f → is_over f.outcome ≡ true
shown-over o s f (inl h) = h.over
shown-over o s f (inr h) = ap is_over h.1.outcome_is

pub all-over : (o : Orders) (s : Setup) (fs : List Found) → All (IsWitnessed o s) fs → AreOver fs
all-over o s fs h i d l = shown-over o s (get_or fs i d) (h i d l)

-- what comes in an order in which no branch is late, comes in one of all
pub shown-every : (s : Setup) (fs : List Found) → All (Shows Prompt s) fs → All (Shows Every s) fs
shown-every s fs h i d l =
    let x = h i d l in
    record { over = x.over; gives = x.gives; timed = x.timed; tried = all-tried s (opening s) (places_of (get_or fs i d).steps.items) }

-- a search of these tells of no depth
pub no-depth : (x : Option ℕ) (P Q : ℕ → Type 0) → IfSome x (λ d. (Prompt ≡ Every) × P d) → IfSome x Q
no-depth None P Q h = tt
no-depth (Some d) P Q h = let e : Prompt ≡ Every = h.0 in absurd (cc)

-- ---- orders that never end

taken-every : (o : Orders) (s : Setup) (w : World) (l : List StepAt) → AreTaken o s w l → AreTaken Every s w l
taken-every o s w [] h = tt
taken-every o s w (a ∷ l) h = (h.0, h.1, tt, taken-every o s (go s w a.place) l h.3)

-- by the parts of a walk
pub lasso-is : (o : Orders) (s y z : Setup) (l : Lasso) (u v w : World) (stem round : List StepAt) → y ≡ s → z ≡ s → u ≡ bare (opening s) → stem ≡ l.stem.items → AreTaken o y u stem → v ≡ after_bare y u (places_of stem) → is_over v.outcome ≡ false
    → 0 < length l.round.items → round ≡ l.round.items → AreTaken o z v round → w ≡ after_bare z v (places_of round) → bare w ≡ bare v → IsLasso o s l
lasso-is o s y z l u v w stem round ey ez eu es hs ev runs some er hr ew alike =
    let here : v ≡ turning s l = ev ∙ (λ i. after_bare (ey i) (eu i) (places_of (es i))) in
    let again : w ≡ after_bare s (turning s l) (places_of l.round.items) = ew ∙ (λ i. after_bare (ez i) (here i) (places_of (er i))) in
    record {
      stem_taken = subst (AreTaken o s (bare (opening s))) es (subst (λ (x : World). AreTaken o s x stem) eu (subst (λ (x : Setup). AreTaken o x u stem) ey hs));
      runs = subst (λ (x : World). is_over x.outcome ≡ false) here runs;
      some = some;
      round_taken = subst (AreTaken o s (turning s l)) er (subst (λ (x : World). AreTaken o s x round) here (subst (λ (x : Setup). AreTaken o x v round) ez hr));
      back = ap bare (sym again) ∙ alike ∙ ap bare here;
    }

every-lasso : (o : Orders) (s : Setup) (l : Lasso) → IsLasso o s l → IsLasso Every s l
every-lasso o s l h = record {
  stem_taken = taken-every o s (bare (opening s)) l.stem.items h.stem_taken;
  runs = h.runs;
  some = h.some;
  round_taken = taken-every o s (turning s l) l.round.items h.round_taken;
  back = h.back;
}

lasso-as : (t o : Orders) (s : Setup) (l : Lasso) → (t ≡ o) ⊎ (o ≡ Every) → IsLasso t s l → IsLasso o s l
lasso-as t o s l (inl e) h = subst (λ (x : Orders). IsLasso x s l) e h
lasso-as t o s l (inr e) h = subst (λ (x : Orders). IsLasso x s l) (sym e) (every-lasso t s l h)

pub lasso-told : (t o : Orders) (s z : Setup) (x : Option Lasso) → z ≡ s → (t ≡ o) ⊎ (o ≡ Every) → IfSome x (IsLasso t z) → IfSome x (IsLasso o s)
lasso-told t o s z None e f h = tt
lasso-told t o s z (Some l) e f h = lasso-as t o s l f (subst (λ (y : Setup). IsLasso t y l) e h)
