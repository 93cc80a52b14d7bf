-- Worlds that are the same but for moments.
use Rattle.std.specs.Prelude.{◌≡◌, map, length}
use Rattle.asl_step_reads.specs.Steps.{timeless_record}
use Rattle.asl_run_branches.specs.Branches.{Branch}
use Rattle.asl_run_state.specs.World.{World}

-- a branch without its moments
abbrev pub timeless_branch : Branch → Branch
timeless_branch b = record { place = b.place; current = timeless_record b.current }

-- the worlds differ in moments alone: those of their branches, of their events, and the last one. Of what was told only its
-- length counts
pub record DifferInMoments (w v : World) : Type 0 where
  pub branches : map timeless_branch w.branches ≡ map timeless_branch v.branches
  pub counts : w.counts ≡ v.counts
  pub many : length w.events ≡ length v.events
  pub deadline : w.deadline ≡ v.deadline
  pub outcome : w.outcome ≡ v.outcome
