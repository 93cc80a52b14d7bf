-- What stands before a closing bracket.
use Rattle.std.specs.Prelude.{ℕ, zero, suc, List, []}

-- behind parts their holder's line, behind none nothing
abbrev pub end_of : List ℕ → ℕ → List ℕ
end_of line zero = []
end_of line (suc i) = line
