-- Times and columns.
use Rattle.std.specs.Prelude.{ℕ, ◌+◌, ◌*◌, ◌-◌, ◌/◌, ◌%◌, List, [], ◌∷◌, ◌++◌, length, replicate, nat_lt, if◌then◌else◌, codes}
use Rattle.std.specs.Fmt.{decimal}
use Rattle.asl_history.specs.Places.{place_text}

-- ---- times

-- two digits, and three
abbrev pub two : ℕ → List ℕ
two n = decimal (n / 10 % 10) ++ decimal (n % 10)

abbrev pub three : ℕ → List ℕ
three n = decimal (n / 100 % 10) ++ two n

-- seconds and milliseconds, and minutes before them
abbrev pub seconds : ℕ → List ℕ
seconds n = 58 ∷ (two (n / 1000 % 60) ++ 46 ∷ three n)

abbrev pub minutes : ℕ → List ℕ
minutes n = two (n / 60000 % 60) ++ seconds n

-- so many milliseconds, as 00:02.500; from an hour on as 1:00:02.500
abbrev pub elapsed : ℕ → List ℕ
elapsed n =
    if nat_lt n 3600000 then minutes n else (decimal (n / 3600000) ++ 58 ∷ minutes n)

-- ---- columns

abbrev pub spaces : ℕ → List ℕ
spaces n = replicate n 32

-- a text in a column of so many bytes; a longer one is as long as it is
abbrev pub padded : ℕ → List ℕ → List ℕ
padded width t = t ++ spaces (width - length t)

-- a place, and behind it two spaces for each of its numbers
abbrev pub place_column : List ℕ → List ℕ
place_column p = padded 4 (place_text p) ++ (32 ∷ spaces (2 * length p))

-- the time since the start, and the place
abbrev pub lead : ℕ → ℕ → List ℕ → List ℕ
lead start now p = elapsed (now - start) ++ (32 ∷ place_column p)

-- what stands before a line that belongs to the one above it
abbrev pub under : List ℕ → List ℕ
under p = spaces (17 + 2 * length p)

-- what stands behind a place, in a column that ends at the same byte at every place
abbrev pub state_column : List ℕ → List ℕ → List ℕ
state_column p t = padded (30 - 2 * length p) t

-- two columns of which the second may be empty
abbrev pub ended : List ℕ → List ℕ → List ℕ
ended t [] = t
ended t (b ∷ u) = padded 24 t ++ (32 ∷ b ∷ u)
