-- What a walk down the tree makes of the branches on its way.
use Rattle.std.specs.Prelude.{ℕ, Bool, not, ◌+◌, nat_lt, List, [], ◌∷◌, map, if◌then◌else◌, Option, None}
use Rattle.asl_step.specs.Records.{is_failed, is_done}
use Rattle.asl_run_branches.specs.Branches.{children_at, is_busy}
use Rattle.asl_run_branches.specs.Trees.{Family, Spot, branches_of, one_if}
use Rattle.asl_run_branches.specs.Turns.{Limits, is_full, due_by, due_at, Due, Turn, sooner, soonest}

-- the branches under one, where no sibling of it or of a branch above it has failed
abbrev pub dues_below : Limits → Family → List Due
dues_below limits f =
    map (λ (s : Spot). (s.held.place, due_at limits (branches_of f) (s.number ∷ s.deeper))) f.below

-- a branch and those under it, where no sibling of it or of a branch above it has failed. Its Map
-- may have no room for it
abbrev pub dues_in : Limits → Bool → Family → List Due
dues_in limits crowded f =
    (f.head.place, due_by crowded (is_busy (children_at [] (branches_of f))) f.head.current)
    ∷ dues_below limits f

-- the turn that comes first among children, of whose elders so many aren't done, and of all of whom
-- so many have failed
abbrev pub soonest_of : Limits → ℕ → ℕ → ℕ → ℕ → List Family → Option Turn
soonest_of limits now limit failed undone [] = None
soonest_of limits now limit failed undone (k ∷ ks) =
    sooner (if nat_lt (one_if (is_failed k.head.current)) failed then None
    else soonest now (dues_in limits (is_full limit undone) k))
    (soonest_of limits now limit failed (undone + one_if (not (is_done k.head.current))) ks)
