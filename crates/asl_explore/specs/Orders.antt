-- Orders of branches: which branch steps, one after another, each at the earliest moment at which it
-- may.
use Rattle.std.specs.Prelude.{ℕ, ◌≡◌, ◌≤◌, ⊤, true, is_some, length, List, [], ◌∷◌, map, None}
use Rattle.std.specs.List.{Contains}
use Rattle.asl_run_branches.specs.Branches.{record_at}
use Rattle.asl_run_state.specs.World.{World, is_over}
use Rattle.asl_run_state.specs.Bare.{bare}
use Rattle.asl_run_state.specs.declared.outcome.Outcome.{Outcome}
use Rattle.asl_run_input.specs.declared.setup.Setup.{Setup}
use Rattle.asl_run_input.specs.declared.step_at.StepAt.{StepAt}
use Rattle.asl_exec.specs.Steps.{step, opening, world_after, refusal_in}
use Rattle.asl_explore.specs.declared.orders.Orders.{Orders}
use Rattle.asl_explore.specs.declared.orders.Orders.TheVariants.{Every, Prompt}
pub use Rattle.asl_exec_moment_laws.specs.Orders.{due_of, due, after_order}

-- the same as a list of steps
abbrev pub timed : Setup → World → List (List ℕ) → List StepAt
timed s w [] = []
timed s w (p ∷ ps) =
    record { place = p; moment = due w p } ∷ timed s (step s w p (due w p)) ps

-- the places of steps
abbrev pub places_of : List StepAt → List (List ℕ)
places_of l = map (λ (a : StepAt). a.place) l

-- ---- which orders are tried

-- a branch is at the place, and may step at its earliest moment
abbrev pub MayStep : Setup → World → List ℕ → Type 0
MayStep s w p =
    (is_some (record_at p w.branches) ≡ true) × (refusal_in s w p (due w p) ≡ None)

-- no branch is late where this one steps: it may, and none may earlier. How long the history is
-- doesn't count
abbrev pub IsPrompt : Setup → World → List ℕ → Type 0
IsPrompt s w p =
    MayStep s (bare w) p × ((q : List ℕ) → MayStep s (bare w) q → due w p ≤ due w q)

abbrev pub IsTried : Orders → Setup → World → List ℕ → Type 0
IsTried Every s w p = ⊤
IsTried Prompt s w p = IsPrompt s w p

-- each step of an order is one that is tried
abbrev pub AreTried : Orders → Setup → World → List (List ℕ) → Type 0
AreTried o s w [] = ⊤
AreTried o s w (p ∷ ps) = IsTried o s w p × AreTried o s (step s w p (due w p)) ps

-- ---- if a history could be as long as one likes

-- the world that a step of the branch at a place leaves, without its history
abbrev pub go : Setup → World → List ℕ → World
go s w p = bare (step s w p (due w p))

-- the same of the branches at these places, one after another
abbrev pub after_bare : Setup → World → List (List ℕ) → World
after_bare s w [] = w
after_bare s w (p ∷ ps) = after_bare s (go s w p) ps

-- each of these steps is one that is tried
abbrev pub AreTriedOn : Orders → Setup → World → List (List ℕ) → Type 0
AreTriedOn o s w [] = ⊤
AreTriedOn o s w (p ∷ ps) = IsTried o s w p × AreTriedOn o s (go s w p) ps

-- ---- what orders end in

-- in whatever order of these the branches step, the outcome is one of those
abbrev pub IsWhole : Orders → Setup → List Outcome → Type 0
IsWhole o s os =
    (ps : List (List ℕ)) → AreTried o s (opening s) ps
    → is_over (after_order s (opening s) ps).outcome ≡ true
    → Contains os (after_order s (opening s) ps).outcome

-- the same of orders of at most so many steps
abbrev pub IsWholeTo : ℕ → Orders → Setup → List Outcome → Type 0
IsWholeTo most o s os =
    (ps : List (List ℕ)) → length ps ≤ most → AreTried o s (opening s) ps
    → is_over (after_order s (opening s) ps).outcome ≡ true
    → Contains os (after_order s (opening s) ps).outcome

-- whatever steps are taken, in whatever order and at whatever moments, the outcome is one of those
abbrev pub IsWholeAtAnyMoment : Setup → List Outcome → Type 0
IsWholeAtAnyMoment s os =
    (l : List StepAt) → is_over (world_after s (opening s) l).outcome ≡ true
    → Contains os (world_after s (opening s) l).outcome
