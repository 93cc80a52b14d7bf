-- What a search finds.
use Rattle.std.specs.Prelude.{ℕ, ◌≡◌, ◌≤◌, ◌⊎◌, Bool, true, false, List, length, is_none, is_some, IfSome}
use Rattle.std.specs.List.{All, Contains}
use Rattle.asl_run_state.specs.World.{World}
use Rattle.asl_run_state.specs.declared.outcome.Outcome.TheVariants.{TimedOut}
use Rattle.asl_run_input.specs.declared.setup.Setup.{Setup}
use Rattle.asl_exec.specs.Steps.{deadline_of}
use Rattle.asl_explore.specs.declared.found.Explored.{Explored}
use Rattle.asl_explore.specs.declared.orders.Orders.{Orders}
use Rattle.asl_explore.specs.declared.orders.Orders.TheVariants.{Every}
use Rattle.asl_explore.specs.Orders.{IsWhole, IsWholeTo, IsWholeAtAnyMoment}
use Rattle.asl_explore.specs.Searches.{AreAllLate, AreDistinct, AreLate, AreAllReached, IsReached, outcomes_of}
use Rattle.asl_explore.specs.Clock.{clock_place}
use Rattle.asl_explore.specs.TimeOver.{IsWitnessed}
use Rattle.asl_explore.specs.Endless.{EachEndsOrFills, IsLasso, NoneIsEndless}
use Rattle.asl_explore.specs.Calls.{AreAllBoundsMet, AreCounted}
use Rattle.asl_explore.specs.Remarks.{AreRemarks}
use Rattle.asl_explore.specs.States.{AreAllStated, IsStated}

-- worlds that were met: as many as are told, and each is reached; each that is reached and runs,
-- where nothing was left out and how often states are invoked was counted; and what is remarkable
-- in them
pub record HasMet (o : Orders) (counted : Bool) (s : Setup) (x : Explored) : Type 0 where
  pub worlds : List World
  pub number_is : length worlds ≡ x.worlds
  pub reached : All (IsReached o s) worlds
  pub all : counted ≡ true → x.complete ≡ true → AreAllReached o s worlds
  pub remarks : x.seen ≡ true → AreRemarks x.complete o s worlds x.states.items x.remarks

-- a search of these orders, of an execution that begins so, which counts how often states are invoked
-- or not, and tries so many worlds at most, may find this
pub record IsFound (o : Orders) (counted : Bool) (limit : ℕ) (s : Setup) (x : Explored) : Type 0 where
  -- each outcome with steps that end in it, none twice
  pub shown : All (IsWitnessed o s) x.found.items
  pub once : AreDistinct (outcomes_of x.found.items)
  -- where nothing was left out, the outcome of each order that is tried
  pub whole : x.complete ≡ true → IsWhole o s (outcomes_of x.found.items)
  -- and of steps at any moments, where all orders are and no text reads the clock; TIMED_OUT is
  -- among them where there is a time limit
  pub any_moment : x.complete ≡ true → o ≡ Every → is_none x.clock ≡ true
      → IsWholeAtAnyMoment s (outcomes_of x.found.items)
  pub time_over : x.complete ≡ true → o ≡ Every → x.limited ≡ true
      → Contains (outcomes_of x.found.items) TimedOut
  pub limited : x.limited ≡ is_some (deadline_of s)
  -- where the first text stands that reads the clock
  pub clock : x.clock ≡ clock_place s.machine
  -- of a search that was cut: how many steps were tried in every order; its limit is the one that was
  -- given
  pub depth : IfSome x.depth (λ d. IsWholeTo d o s (outcomes_of x.found.items))
  pub cut : x.complete ≡ false → x.stuck ≡ false → limit ≤ x.worlds
  -- the worlds that were met, and what is remarkable in them
  pub worlds : HasMet o counted s x
  pub seen : (x.complete ≡ true) ⊎ (x.stuck ≡ false) → x.seen ≡ true
  -- where no order is told that is endless, each can be gone on with to an end, or until no history
  -- has room for more; one that is told goes round
  pub ends : x.reduced ≡ false → x.complete ≡ true → is_none x.endless ≡ true → NoneIsEndless o s
  pub fills : x.complete ≡ true → is_none x.endless ≡ true → EachEndsOrFills o s
  pub plain : counted ≡ true → x.complete ≡ true → x.reduced ≡ false
  pub lasso : IfSome x.endless (IsLasso o s)
  -- those that are called late come in no order in which no branch is; where that is known, all of
  -- these are called so
  pub late : AreLate s x.found.items x.late.items
  pub all_late : x.marked ≡ true → AreAllLate s x.found.items x.late.items
  -- how often each state is invoked in an order
  pub calls : counted ≡ true → x.complete ≡ true
      → AreCounted o s (outcomes_of x.found.items) x.calls.items
  pub bounds : counted ≡ true → x.complete ≡ true
      → AreAllBoundsMet o s (outcomes_of x.found.items) x.calls.items
  -- the states of the definition
  pub states : All (IsStated s.machine) x.states.items
  pub all_states : AreAllStated s.machine x.states.items
  pub orders : x.orders ≡ o
