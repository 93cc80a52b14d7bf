-- Where a reader stands, by the machine.
use Rattle.std.specs.Prelude.{◌≡◌, ◌<◌, ℕ, suc, ◌+◌, ◌*◌, List, length, reverse, Result, Ok}
use Rattle.asl_intrinsic.specs.Tree.{Argument, Frame}
use Rattle.asl_intrinsic.specs.private.Steps.{Mode, opening, wanting, ended, run}
use Rattle.asl_intrinsic.specs.private.Keeps.{KeepsOne, KeepsAll}
use Rattle.asl_intrinsic.specs.declared.call.Argument as code
use Rattle.asl_intrinsic.specs.declared.frame.Wrong.{Wrong}
use Rattle.asl_intrinsic.specs.declared.reading.Place.{Place}
use Rattle.asl_intrinsic.specs.declared.reading.Place.TheVariants as place
use Rattle.asl_intrinsic.specs.declared.reading.Reader.{Reader}

-- with so many open calls
abbrev pub StandsAt : ℕ → Place → Mode → Type 0
StandsAt n place.Opening m = (m ≡ opening) × (0 < n)
StandsAt n place.Wanting m = (m ≡ wanting) × (0 < n)
StandsAt n (place.Ended kept) m = (a : Argument) × ((m ≡ ended a) × KeepsOne (suc n) kept a)

-- what is left to be read leads to this outcome
pub record Hears (o : Result Argument ℕ) (r : Reader) : Type 0 where
  pub mode : Mode
  pub st : List Frame
  pub stands : StandsAt (length st) r.place mode
  pub keeps : KeepsAll (reverse r.calls.items) st
  pub leads : o ≡ run mode st r.rest.now

-- the outcome is the tree of what is kept
pub record HearsTree (o : Result Argument ℕ) (kept : Result code.Argument Wrong) : Type 0 where
  pub tree : Argument
  pub outcome : o ≡ Ok tree
  pub keeps : KeepsOne 1 kept tree

-- each turn makes this less
abbrev pub more_at : Place → ℕ
more_at place.Opening = 1
more_at place.Wanting = 1
more_at (place.Ended kept) = 0

abbrev pub waits : Reader → ℕ
waits r = 2 * length r.rest.now + more_at r.place
