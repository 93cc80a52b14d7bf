-- Copies of trees, of which no event tells.
use Rattle.std.specs.Prelude.{map}
use Rattle.asl_run_branches.specs.Trees.{Held, Spot, Family}

abbrev pub bare_held : Held → Held
bare_held h = record h { at = 0; under = 0 }

abbrev pub bare_spot : Spot → Spot
bare_spot s = record s { held = bare_held s.held }

-- the same branches, of which no event was told
abbrev pub bare_family : Family → Family
bare_family f = record { head = bare_held f.head; below = map bare_spot f.below }
