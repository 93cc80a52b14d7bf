-- The lines of branches that run, along a walk down their tree.
use Rattle.std.specs.Prelude.{ℕ, List, [], ◌∷◌, ◌++◌, if◌then◌else◌}
use Rattle.asl_run_branches.specs.Trees.{Held, Spot, Family, Node}
use Rattle.asl_trace.specs.Stopped.{is_under, running_line}

abbrev pub held_line : ℕ → ℕ → Held → List ℕ
held_line start now h = running_line start now h.place h.current

abbrev pub spots_lines : ℕ → ℕ → List Spot → List ℕ
spots_lines start now [] = []
spots_lines start now (s ∷ ss) = held_line start now s.held ++ spots_lines start now ss

-- of a frame's branch, and of those under it
abbrev pub lines_at : ℕ → ℕ → Family → List ℕ
lines_at start now f = held_line start now f.head ++ spots_lines start now f.below

abbrev pub lines_in : ℕ → ℕ → List Family → List ℕ
lines_in start now [] = []
lines_in start now (k ∷ ks) = lines_at start now k ++ lines_in start now ks

-- of those of these that are under a place
abbrev pub node_line : ℕ → ℕ → List ℕ → Node → List ℕ
node_line start now p n = if is_under p n.place then held_line start now n.held else []

abbrev pub lines_under : ℕ → ℕ → List ℕ → List Node → List ℕ
lines_under start now p [] = []
lines_under start now p (n ∷ ns) = node_line start now p n ++ lines_under start now p ns
