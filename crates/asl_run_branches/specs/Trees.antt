-- Trees of branches, as lists.
use Rattle.std.specs.Prelude.{ℕ, ◌≡◌, ◌+◌, ◌*◌, ◌≤◌, not, if◌then◌else◌, Bool, true, List, [], ◌∷◌, ◌++◌, length, map}
use Rattle.std.proofs.Common.{arith, length-append}
use Rattle.std.proofs.lemmas.List.{length-map}
use Rattle.std.specs.List.{AllByRecursion}
use denote.Param.Weighed.{most}
use Rattle.asl_step.specs.Records.{is_failed, is_done}
use Rattle.asl_step.specs.declared.record.Record.{Record}
use Rattle.asl_run_branches.specs.Branches.{Branch}

-- what a frame has besides its children: its place; what its branch is doing; the id of the latest
-- event at its place, and that of
-- the latest event at it or under it
pub record Held : Type 0 where
  pub place : List ℕ
  pub current : Record
  pub at : ℕ
  pub under : ℕ

-- a branch under a frame: the number of the child that it is at or under, and its place as that
-- child sees it
pub record Spot : Type 0 where
  pub number : ℕ
  pub deeper : List ℕ
  pub held : Held

-- a frame as contracts see it: what it holds, and the branches under it in path order
pub record Family : Type 0 where
  pub head : Held
  pub below : List Spot

abbrev pub pushed : ℕ → Spot → Spot
pushed i s = record { number = i; deeper = s.number ∷ s.deeper; held = s.held }

-- the branches of the children, numbered from i
abbrev pub below_of : ℕ → List Family → List Spot
below_of i [] = []
below_of i (k ∷ ks) =
    record { number = i; deeper = []; held = k.head }
    ∷ (map (pushed i) k.below ++ below_of (i + 1) ks)

-- the branch as its frame sees it
abbrev pub branch_of : Spot → Branch
branch_of s = record { place = s.number ∷ s.deeper; current = s.held.current }

-- the branches of a frame in path order, as the frame sees them
abbrev pub branches_of : Family → List Branch
branches_of f = record { place = []; current = f.head.current } ∷ map branch_of f.below

-- the same with all that their frames hold
pub record Node : Type 0 where
  pub place : List ℕ
  pub held : Held

abbrev pub node_of : Spot → Node
node_of s = record { place = s.number ∷ s.deeper; held = s.held }

abbrev pub nodes_of : Family → List Node
nodes_of f = record { place = []; held = f.head } ∷ map node_of f.below

abbrev pub plain : Node → Branch
plain n = record { place = n.place; current = n.held.current }

-- each frame has the place that the root sees it at
abbrev pub ArePlaced : List Node → Type 0
ArePlaced ns = AllByRecursion (λ n. n.held.place ≡ n.place) ns

pub most-below : (i : ℕ) (kids : List Family)
    → most (λ k. 2 * length k.below + 1 + 1) kids ≤ 2 * length (below_of i kids)
most-below i [] = omega arith
most-below i (k ∷ ks) =
    omega (
      arith,
      most-below (i + 1) ks,
      length-append (map (pushed i) k.below)
          (below_of (i + 1) ks),
      length-map k.below (pushed i),
    )

-- ---- counts over the children

abbrev pub one_if : Bool → ℕ
one_if b = if b then 1 else 0

abbrev pub count_undone : List Family → ℕ
count_undone [] = 0
count_undone (k ∷ ks) = one_if (not (is_done k.head.current)) + count_undone ks

abbrev pub count_failed : List Family → ℕ
count_failed [] = 0
count_failed (k ∷ ks) = one_if (is_failed k.head.current) + count_failed ks

-- the counts of a frame are those over its children
pub record AreCounted (undone failed : ℕ) (kids : List Family) : Type 0 where
  pub undone_is : undone ≡ count_undone kids
  pub failed_is : failed ≡ count_failed kids

-- the children that a frame gets: none, if it keeps those that it has
pub record IsLitter (keeps : Bool) (undone failed : ℕ) (kids : List Family) : Type 0 where
  pub counted : AreCounted undone failed kids
  pub none : keeps ≡ true → kids ≡ []
