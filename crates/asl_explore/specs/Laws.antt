-- Laws of searches.
use Rattle.std.specs.Prelude.{ℕ, ◌≡◌, ◌⊎◌, true, false, List, None, Decides, IsSome}
use Rattle.std.specs.List.{Contains}
use Rattle.asl_run_state.specs.World.{World, is_over}
use Rattle.asl_run_state.specs.Bare.{bare}
use Rattle.asl_run_state.specs.declared.outcome.Outcome.{Outcome}
use Rattle.asl_run_state.specs.declared.outcome.Outcome.TheVariants.{TimedOut}
use Rattle.asl_run_input.specs.declared.setup.Setup.{Setup}
use Rattle.asl_exec.specs.Driving.{driven}
use Rattle.asl_exec.specs.Steps.{deadline_of, opening, step}
use Rattle.asl_step_reads.specs.Reading.{reads}
use Rattle.asl_step_reads.specs.Steps.{clock_keys}
use Rattle.asl_explore.specs.Orders.{due, IsTried, IsWhole, MayStep}
use Rattle.asl_explore.specs.declared.orders.Orders.{Orders}
use Rattle.asl_explore.specs.declared.orders.Orders.TheVariants.{Every, Prompt}
use Rattle.asl_explore.specs.Remarks.{is_tried_at}
use Rattle.asl_explore.specs.Searches.{IsClosed, IsMetAside, IsExpandedAside, NoneWaits}

-- a step reads nothing of the history: it is refused, or leaves the same world but for the history
abbrev pub StepsIgnoreHistory : Type 0
StepsIgnoreHistory =
    (s : Setup) (w : World) (p : List ℕ) (t : ℕ)
    → (step s w p t ≡ w) ⊎ (bare (step s w p t) ≡ bare (step s (bare w) p t))

-- a search that met the opening world, and took enough steps of each world that it met, left out
-- nothing
abbrev pub ClosedIsWhole : Type 0
ClosedIsWhole =
    (o : Orders) (s : Setup) (ws : List World) (os : List Outcome) → IsClosed o s ws os
    → IsWhole o s os

-- where it was one of the orders in which no branch is late, no branch waits in any of its worlds,
-- and no time limit ends the execution, it left out no order at all
abbrev pub WaitlessIsWhole : Type 0
WaitlessIsWhole =
    (s : Setup) (ws : List World) (os : List Outcome) → IsClosed Prompt s ws os → NoneWaits ws
    → deadline_of s ≡ None → IsWhole Every s os

-- what a run without a list of steps ends in is listed where nothing was left out, whichever orders
-- were tried; or the execution's time is over
abbrev pub DrivenIsListed : Type 0
DrivenIsListed =
    (o : Orders) (s : Setup) (os : List Outcome) (n : ℕ) → IsWhole o s os
    → is_over (driven n s (opening s)).outcome ≡ true
    → Contains os (driven n s (opening s)).outcome
    ⊎ (((driven n s (opening s)).outcome ≡ TimedOut) × IsSome (deadline_of s))

-- a search that took one world for all that differ from it in moments alone left out nothing, where
-- the definition reads no clock and no time limit ends the execution
abbrev pub TimelessIsWhole : Type 0
TimelessIsWhole =
    (s : Setup) (ws : List World) (os : List Outcome) → reads clock_keys s.machine ≡ false
    → deadline_of s ≡ None → IsMetAside ws os (opening s)
    → ((w : World) → Contains ws w → IsExpandedAside s ws os w) → IsWhole Every s os

-- of a branch that may step: that its step is one that is tried, as a truth value (Remarks), is
-- that it is (Orders)
abbrev pub TriedIsDecided : Type 0
TriedIsDecided =
    (o : Orders) (s : Setup) (w : World) (p : List ℕ) → MayStep s (bare w) p
    → Decides (is_tried_at o s (bare w) (due w p)) (IsTried o s w p)
