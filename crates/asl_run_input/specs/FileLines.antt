-- Files of lines, each of which spells a value.
use Rattle.std.specs.Prelude.{◌≡◌, ℕ, ◌+◌, ◌==◌, if◌then◌else◌, List, [], ◌∷◌, ◌++◌, length, ⊤}

-- the lines, with a byte put in front of the first of them, which is a new one where there is none
abbrev pub before_lines : ℕ → List (List ℕ) → List (List ℕ)
before_lines c [] = (c ∷ []) ∷ []
before_lines c (line ∷ lines) = (c ∷ line) ∷ lines

-- the lines of a file: each line feed ends one, and what stands behind the last line feed is one
-- unless it's empty
abbrev pub lines_in : List ℕ → List (List ℕ)
lines_in [] = []
lines_in (c ∷ cs) = if c == 10 then [] ∷ lines_in cs else before_lines c (lines_in cs)

-- each line spells the value at its place, and there are as many
abbrev pub AreSpelled : {X : Type 0} → (List ℕ → X → Type 0) → List (List ℕ) → List X → Type 0
AreSpelled Spells [] [] = ⊤
AreSpelled Spells [] (x ∷ xs) = ⊥
AreSpelled Spells (line ∷ lines) [] = ⊥
AreSpelled Spells (line ∷ lines) (x ∷ xs) = Spells line x × AreSpelled Spells lines xs

-- line number n, from 1, spells no value, and each before it spells one
pub record IsFirstBadLine {X : Type 0} (Spells : List ℕ → X → Type 0) (bytes : List ℕ) (n : ℕ)
    : Type 0 where
  pub before : List (List ℕ)
  pub bad : List ℕ
  pub after : List (List ℕ)
  pub split : lines_in bytes ≡ before ++ bad ∷ after
  pub number : n ≡ length before + 1
  pub values : List X
  pub good : AreSpelled Spells before values
  pub none : (x : X) → Spells bad x → ⊥
