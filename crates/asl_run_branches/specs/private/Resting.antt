-- Children at rest, which a walk may skip.
use Rattle.std.specs.Prelude.{ℕ, ◌≡◌, ◌≤◌, Bool, true, false, nat_le, List, [], take, length}
use Rattle.std.specs.List.{AllByRecursion}
use Rattle.asl_step.specs.Records.{is_done}
use Rattle.asl_step.specs.declared.record.Record.{Record}
use Rattle.asl_step.specs.declared.record.Record.TheVariants.{New, Ready, Pausing, Again, Forked, Done, Failed}
use Rattle.asl_run_branches.specs.Trees.{Family, count_undone, AreCounted}
use Rattle.asl_run_branches.specs.declared.resting.Resting.{Resting}

-- a branch that is doing this has ended, or waits at least until this moment
abbrev pub waits : ℕ → Record → Bool
waits until (New n x) = false
waits until (Ready n x) = false
waits until (Pausing n x since end) = nat_le until end
waits until (Again n x since uses end) = nat_le until end
waits until (Forked n x since uses items) = false
waits until (Done x) = true
waits until (Failed e) = true

-- it is done, and no branch is under it
pub record IsOver (k : Family) : Type 0 where
  pub done : is_done k.head.current ≡ true
  pub bare : k.below ≡ []

-- it has ended or waits at least until this moment, and no branch is under it
pub record IsIdle (until : ℕ) (k : Family) : Type 0 where
  pub waiting : waits until k.head.current ≡ true
  pub bare : k.below ≡ []

-- what is known of the children at rest is so
pub record IsResting (r : Resting) (kids : List Family) : Type 0 where
  pub ordered : r.over ≤ r.idle
  pub within : r.idle ≤ length kids
  pub overs : AllByRecursion IsOver (take r.over kids)
  pub idles : AllByRecursion (IsIdle r.until) (take r.idle kids)
  pub counted : r.undone ≡ count_undone (take r.idle kids)

-- what a frame keeps of its children is so
pub record AreKept (undone failed : ℕ) (r : Resting) (kids : List Family) : Type 0 where
  pub counts : AreCounted undone failed kids
  pub resting : IsResting r kids
