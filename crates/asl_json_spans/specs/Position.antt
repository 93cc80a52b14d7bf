-- Where a byte of a text is: the line feeds before it, and the characters since the last of them.
use Rattle.std.specs.Prelude.{◌≡◌, ◌⊎◌, ℕ, List, [], ◌∷◌, ◌++◌, ◌==◌, ◌||◌, Bool, count_by, nat_lt, nat_le}

abbrev pub is_feed : ℕ → Bool
is_feed c = c == 10

-- whether a byte of a text in UTF-8 begins a character
abbrev pub begins_character : ℕ → Bool
begins_character c = nat_lt c 128 || nat_le 192 c

-- a line begins behind it: nothing, or what ends with a line feed
abbrev pub IsLines : List ℕ → Type 0
IsLines t = (t ≡ []) ⊎ ((u : List ℕ) × (t ≡ u ++ 10 ∷ []))

-- the byte behind these bytes
pub record IsPosition (before : List ℕ) (lines characters : ℕ) : Type 0 where
  pub whole : List ℕ
  pub since : List ℕ
  pub parts : before ≡ whole ++ since
  pub whole_is : IsLines whole
  pub one_line : count_by is_feed since ≡ 0
  pub lines_are : lines ≡ count_by is_feed before
  pub characters_are : characters ≡ count_by begins_character since
