-- What contracts see of a history.
use Rattle.std.specs.Prelude.{ℕ, List}
use Rattle.asl_history.specs.declared.event.Event.{Event}

-- the events in order, and for how many more there is room
pub record Log : Type 0 where
  pub events : List Event
  pub spare : ℕ
