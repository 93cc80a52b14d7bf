-- Branches that have numbers.
use Rattle.std.specs.Prelude.{ℕ, ◌≡◌, ◌<◌, ◌++◌, false, List, length, map, Option, Some, option_map, slice_get, slice_index}
use Rattle.asl_history.specs.Places.{is_prefix}
use Rattle.asl_step.specs.declared.record.Record.{Record}
use Rattle.asl_run_branches.specs.Branches.{Branch, record_at}
use Rattle.asl_run_state.specs.World.{World}
use Rattle.asl_branch_numbers.specs.declared.branches.Branches.{Branches}
use Rattle.asl_branch_numbers.specs.declared.branches.Numbered.{Numbered}

abbrev pub branch_in : Numbered → Branch
branch_in n = record { place = n.place; current = n.held }

-- the branches that have numbers, from 0 on
abbrev pub branches_in : Branches → List Branch
branches_in b = map branch_in b.list.items

-- the branch at a place, if there is one
abbrev pub branch_at : List ℕ → List Branch → Option Branch
branch_at p bs = option_map (λ (r : Record). record { place = p; current = r }) (record_at p bs)

-- of these branches those of these numbers are those, one for one
abbrev pub AreNumbers : List Branch → List ℕ → List Branch → Type 0
AreNumbers ts ns bs = map (slice_get ts) ns ≡ map Some bs

-- others have numbers, too, and each keeps the one that it has
pub record IsMore (ts us : List Branch) : Type 0 where
  pub more : List Branch
  pub is : us ≡ ts ++ more

-- a world is like one before a step at this place, but for what such a step changes
pub record IsBehind (p : List ℕ) (w v : World) : Type 0 where
  -- a branch that isn't at the place or under it does what it did
  pub apart : (q : List ℕ) → is_prefix p q ≡ false → record_at q v.branches ≡ record_at q w.branches
  pub counts : length v.counts ≡ length w.counts
  pub deadline : v.deadline ≡ w.deadline

-- the number at this index is that of a branch at the place q, which isn't at p or under it
pub record IsKept (ts : List Branch) (ns : List ℕ) (p q : List ℕ) (i : ℕ) : Type 0 where
  pub there : i < length ns
  pub apart : is_prefix p q ≡ false
  pub at : option_map (λ (b : Branch). b.place) (slice_get ts (slice_index ns i)) ≡ Some q
