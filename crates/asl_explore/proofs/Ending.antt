-- Where an end is reached from each world that was met, every order can be gone on with to one.
use Rattle.std.proofs.Common.{ℕ, ◌≡◌, ◌⊎◌, inl, inr, ◌∙◌, sym, refl, Bool, true, false, List, [], length, get_or}
use Rattle.std.specs.List.{All}
use Rattle.std.proofs.lemmas.List.Elements.{All-contains}
use Rattle.asl_run_state.specs.World.{World, is_over}
use Rattle.asl_run_state.specs.Bare.{bare}
use Rattle.asl_run_state.specs.declared.outcome.Outcome.{Outcome}
use Rattle.asl_run_input.specs.declared.setup.Setup.{Setup}
use Rattle.asl_exec.specs.Steps.{opening}
use Rattle.asl_explore.specs.declared.orders.Orders.{Orders}
use Rattle.asl_explore.specs.declared.orders.Orders.TheVariants.{Every, Prompt}
use Rattle.asl_explore.specs.Orders.{after_order}
use Rattle.asl_explore.specs.Searches.{IsMet, IsExpanded, IsTakenOn, AreTakenOn}
use Rattle.asl_explore.specs.Endless.{CanEnd, NoneIsEndless}
use Rattle.asl_explore.proofs.Whole.{met-after}

-- a world that is met can end
pub met-ends : (o : Orders) (s : Setup) (ws : List World) (os : List Outcome) (w : World) → All (CanEnd o s) ws → IsMet ws os w → CanEnd o s (bare w)
met-ends o s ws os w all m = by (is_over w.outcome) refl
  where
    by : (b : Bool) → is_over w.outcome ≡ b → CanEnd o s (bare w)
    by true e = record { places = []; tried = tt; ends = e }
    by false e = All-contains (CanEnd o s) ws (bare w) all (m.runs e)

-- where each step was taken of each world
pub expanded-ends : (o : Orders) (s : Setup) (ws : List World) (os : List Outcome) → IsMet ws os (opening s) → All (IsExpanded o s ws os) ws → All (CanEnd o s) ws → NoneIsEndless o s
expanded-ends o s ws os m all ends ps tried = met-ends o s ws os (after_order s (opening s) ps) ends (met-after o s ws os (opening s) ps all tried m)

pub taken-expanded : (o : Orders) (s : Setup) (ws : List World) (os : List Outcome) (i : ℕ) (w : World) → o ≡ Every → IsTakenOn o s ws os i w → IsExpanded o s ws os w
taken-expanded o s ws os i w e (inl x) = x
taken-expanded o s ws os i w e (inr x) = let c : Every ≡ Prompt = sym e ∙ x.0 in absurd (cc)

-- a search that takes no quiet step alone, or in which every order is tried
pub searched-ends : (o : Orders) (s : Setup) (ws : List World) (os : List Outcome) (alone : Bool) → IsMet ws os (opening s) → (alone ≡ false) ⊎ (o ≡ Every) → (alone ≡ false → All (IsExpanded o s ws os) ws) → AreTakenOn o s ws os (length ws) → All (CanEnd o s) ws → NoneIsEndless o s
searched-ends o s ws os alone m (inl e) plain taken ends = expanded-ends o s ws os m (plain e) ends
searched-ends o s ws os alone m (inr e) plain taken ends = expanded-ends o s ws os m (λ k d l. taken-expanded o s ws os k (get_or ws k d) e (taken k l d)) ends

-- one of the orders in which no branch is late, where quiet steps are taken alone, is neither
pub never-plain : (true ≡ false) ⊎ (Prompt ≡ Every) → ⊥
never-plain (inl e) = (cc)
never-plain (inr e) = (cc)
