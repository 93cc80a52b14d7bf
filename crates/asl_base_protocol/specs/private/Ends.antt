-- How bytes end.
use Rattle.std.specs.Prelude.{ℕ, ◌==◌, Bool, List, [], ◌∷◌}

-- whether a carriage return is the last of these bytes; of none, whether one stands before them
abbrev pub cr_behind : Bool → List ℕ → Bool
cr_behind cr [] = cr
cr_behind cr (c ∷ cs) = cr_behind (c == 13) cs
