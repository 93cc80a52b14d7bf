-- The branches that a step stops: those under its place that have begun and haven't ended.
use Rattle.std.specs.Prelude.{ℕ, Bool, true, false, ◌==◌, ◌&&◌, List, [], ◌∷◌, ◌++◌, if◌then◌else◌}
use Rattle.asl_step.specs.declared.record.Record.{Record}
use Rattle.asl_step.specs.declared.record.Record.TheVariants.{New, Done, Failed}
use Rattle.asl_step.specs.Records.{name_in}
use Rattle.asl_run_branches.specs.Branches.{Branch}
use Rattle.asl_trace_lines.specs.Lines.{stopped_line}

-- whether a branch has begun and hasn't ended
abbrev pub runs : Record → Bool
runs (New n x) = false
runs (Done x) = false
runs (Failed e) = false
runs _ = true

-- whether q is under p, and isn't p
abbrev pub is_under : List ℕ → List ℕ → Bool
is_under [] [] = false
is_under [] (y ∷ ys) = true
is_under (x ∷ xs) [] = false
is_under (x ∷ xs) (y ∷ ys) = (x == y) && is_under xs ys

-- the line of a branch at q, where it runs
abbrev pub running_line : ℕ → ℕ → List ℕ → Record → List ℕ
running_line start now q r = if runs r then stopped_line start now q (name_in r) else []

abbrev pub stopped_at : ℕ → ℕ → List ℕ → Branch → List ℕ
stopped_at start now p b =
    if is_under p b.place then running_line start now b.place b.current else []

-- a line for each branch under p that runs, in the order of the branches
abbrev pub stopped_lines : ℕ → ℕ → List ℕ → List Branch → List ℕ
stopped_lines start now p [] = []
stopped_lines start now p (b ∷ bs) = stopped_at start now p b ++ stopped_lines start now p bs
