-- What always holds of a run.
use Rattle.std.specs.Prelude.{ℕ, ◌≡◌, ◌≤◌, ◌+◌, Bool, true, false, not, List, [], ◌∷◌, length, slice_index}
use Rattle.asl_history.specs.declared.event.Event.{Event}
use Rattle.asl_run_branches.specs.Trees.{Node, ArePlaced}
use Rattle.asl_run_branches.specs.private.Links.{IsLinked}
use Rattle.asl_step.specs.Records.{is_finished}
use Rattle.asl_run_state.specs.World.{is_over}
use Rattle.asl_run_state.specs.declared.outcome.Outcome.{Outcome}

-- the branch that the execution began with hasn't ended
abbrev pub is_going : List Node → Bool
is_going [] = false
is_going (n ∷ ns) = not (is_finished n.held.current)

pub record IsSound (nodes : List Node) (counts : List ℕ) (events : List Event)
    (outcome : Outcome) : Type 0 where
  -- the branches know the latest events, and their places
  pub linked : IsLinked nodes events
  pub placed : ArePlaced nodes
  -- no state was invoked too often: a world without its history begins with at most 10^9
  pub counted : (n : ℕ) → slice_index counts n ≤ 1_000_000_000 + length events
  -- while the execution runs, the branch that it began with does
  pub goes : is_over outcome ≡ false → is_going nodes ≡ true
