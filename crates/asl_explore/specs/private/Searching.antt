-- What a search came to.
use Rattle.std.specs.Prelude.{ℕ, ◌≡◌, ◌≤◌, ◌⊎◌, Bool, true, false, length, IfSome}
use Rattle.std.specs.List.{All}
use Rattle.asl_run_input.specs.declared.setup.Setup.{Setup}
use Rattle.asl_explore.specs.Calls.{AllAreExpanded}
use Rattle.asl_explore.specs.Endless.{CanEnd, EachEndsOrFills, NoneIsEndless}
use Rattle.asl_explore.specs.Orders.{IsWhole, IsWholeTo}
use Rattle.asl_explore.specs.Searches.{AreDistinct, IsReached, Shows, outcomes_of, worlds_of}
use Rattle.asl_explore.specs.declared.orders.Orders.{Orders}
use Rattle.asl_explore.specs.declared.orders.Orders.TheVariants.{Every}
use Rattle.asl_explore.specs.declared.search.Searched.{Searched}

-- a search of these orders of an execution that begins so, of at most so many worlds: of each of which
-- every branch stepped, unless quiet steps may be taken alone
pub record IsSearch (o : Orders) (alone : Bool) (limit : ℕ) (s : Setup) (x : Searched) : Type 0 where
  -- each outcome comes with steps that end in it, and is there once
  pub shown : All (Shows o s) x.found.list.items
  pub once : AreDistinct (outcomes_of x.found.list.items)
  pub reached : All (IsReached o s) (worlds_of x.met.nodes.items)
  -- where nothing was left out, the outcomes are those of every order
  pub whole : x.complete ≡ true → IsWhole o s (outcomes_of x.found.list.items)
  pub expanded : alone ≡ false → x.complete ≡ true
      → AllAreExpanded o s (worlds_of x.met.nodes.items) (outcomes_of x.found.list.items)
  pub plain : alone ≡ false → x.reduced ≡ false
  pub ending : x.reduced ≡ false → x.complete ≡ true
      → All (CanEnd x.tried s) (worlds_of x.met.nodes.items) → NoneIsEndless o s
  pub filling : x.complete ≡ true → All (CanEnd x.tried s) (worlds_of x.met.nodes.items)
      → EachEndsOrFills o s
  pub depth : IfSome x.depth (λ d. (o ≡ Every) × IsWholeTo d o s (outcomes_of x.found.list.items))
  -- nothing but the limit cuts it
  pub cut : x.complete ≡ false → x.whole ≡ true → limit ≤ length x.met.nodes.items
  pub tried : (x.tried ≡ o) ⊎ (o ≡ Every)
