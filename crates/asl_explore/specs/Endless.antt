-- Orders that never end.
use Rattle.std.specs.Prelude.{ℕ, ◌≡◌, ◌<◌, ◌≤◌, ◌⊎◌, ⊤, true, false, length, sum, List, [], ◌∷◌}
use Rattle.asl_run_state.specs.World.{World, is_over}
use Rattle.asl_run_state.specs.Bare.{bare}
use Rattle.asl_run_input.specs.declared.setup.Setup.{Setup}
use Rattle.asl_run_input.specs.declared.step_at.StepAt.{StepAt}
use Rattle.asl_exec.specs.Steps.{opening}
use Rattle.asl_explore.specs.declared.orders.Orders.{Orders}
use Rattle.asl_explore.specs.declared.endless.Lasso.{Lasso}
use Rattle.asl_explore.specs.Settled.{most_invocations}
use Rattle.asl_explore.specs.Orders.{due, places_of, MayStep, IsTried, AreTried, after_order, go, after_bare, AreTriedOn}

-- steps that are tried lead from a world to an end of the execution
pub record CanEnd (o : Orders) (s : Setup) (w : World) : Type 0 where
  pub places : List (List ℕ)
  pub tried : AreTriedOn o s w places
  pub ends : is_over (after_bare s w places).outcome ≡ true

-- every order that is tried can be gone on with by steps that are tried, to an end of the execution,
-- if a history could be as long as one likes
abbrev pub NoneIsEndless : Orders → Setup → Type 0
NoneIsEndless o s =
    (ps : List (List ℕ)) → AreTried o s (opening s) ps
    → CanEnd o s (bare (after_order s (opening s) ps))

-- steps that are tried lead from a world to one in which services were invoked as often as a history
-- has room for at most: no step of an execution comes behind it
pub record CanFill (o : Orders) (s : Setup) (w : World) : Type 0 where
  pub places : List (List ℕ)
  pub tried : AreTriedOn o s w places
  pub full : most_invocations ≤ sum (after_bare s w places).counts

-- every order that is tried can be gone on with by steps that are tried: to an end of the execution,
-- or until no history has room for more
abbrev pub EachEndsOrFills : Orders → Setup → Type 0
EachEndsOrFills o s =
    (ps : List (List ℕ)) → AreTried o s (opening s) ps
    → CanEnd o s (bare (after_order s (opening s) ps))
    ⊎ CanFill o s (bare (after_order s (opening s) ps))

-- ---- one that is told

-- each of these steps may be taken, is one that is tried, and comes at the earliest moment
abbrev pub AreTaken : Orders → Setup → World → List StepAt → Type 0
AreTaken o s w [] = ⊤
AreTaken o s w (a ∷ l) =
    MayStep s w a.place × (due w a.place ≡ a.moment) × IsTried o s w a.place
    × AreTaken o s (go s w a.place) l

-- the world to which the first steps lead
abbrev pub turning : Setup → Lasso → World
turning s l = after_bare s (bare (opening s)) (places_of l.stem.items)

-- steps lead to a world that runs, and others lead from there back to it, but for its history: so
-- these may be taken again and again
pub record IsLasso (o : Orders) (s : Setup) (l : Lasso) : Type 0 where
  pub stem_taken : AreTaken o s (bare (opening s)) l.stem.items
  pub runs : is_over (turning s l).outcome ≡ false
  pub some : 0 < length l.round.items
  pub round_taken : AreTaken o s (turning s l) l.round.items
  pub back :
      bare (after_bare s (turning s l) (places_of l.round.items)) ≡ bare (turning s l)
