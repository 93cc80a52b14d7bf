-- Ends that are judged.
use Rattle.std.specs.Prelude.{ℕ, ◌≡◌, ◌<◌, Bool, true, false, List, Option, length, get_or, is_none, IfSome}
use Rattle.asl_run_state.specs.declared.outcome.Outcome.{Outcome}
use Rattle.asl_run_input.specs.declared.setup.Setup.{Setup}
use Rattle.asl_exec.specs.Steps.{opening, world_after}
use Rattle.asl_explore.specs.Ends.{AllEndIn}
use Rattle.asl_explore.specs.Searches.{Shows}
use Rattle.asl_explore.specs.declared.found.Found.{Found}
use Rattle.asl_explore.specs.declared.orders.Orders.{Orders}

-- an outcome is accepted, with states invoked so often
abbrev pub Accepts : (Outcome → List ℕ → Bool) → Outcome → List ℕ → Type 0
Accepts accepts o counts = accepts o counts ≡ true

-- these steps, each one that is tried and at the earliest moment of its branch, end the execution so that it isn't accepted
pub record IsRefused (accepts : Outcome → List ℕ → Bool) (o : Orders) (s : Setup) (f : Found) : Type 0 where
  pub shows : Shows o s f
  pub refused : accepts f.outcome (world_after s (opening s) f.steps.items).counts ≡ false

-- a refused end comes of an order that is tried; where there is none, and all that are tried are known, each that ends is accepted
pub record IsVerdict (accepts : Outcome → List ℕ → Bool) (known : Bool) (o : Orders) (s : Setup) (v : Option Found)
    : Type 0 where
  pub refused : IfSome v (IsRefused accepts o s)
  pub accepted : known ≡ true → is_none v ≡ true → AllEndIn (Accepts accepts) o s

-- each judge's verdict
pub record AreJudged {J : Type 0} (accepts : J → Setup → Outcome → List ℕ → Bool) (known : Bool) (o : Orders) (s : Setup)
    (judges : List J) (vs : List (Option Found)) : Type 0 where
  pub many : length vs ≡ length judges
  pub each : (i : ℕ) (j : J) (v : Option Found) → i < length judges
      → IsVerdict (accepts (get_or judges i j) s) known o s (get_or vs i v)
