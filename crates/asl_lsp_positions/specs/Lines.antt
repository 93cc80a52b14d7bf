-- A text by its lines (Language Server Protocol 3.17, "Text Documents").
use Rattle.std.specs.Prelude.{ℕ, ◌≡◌, List, [], ◌∷◌, ◌++◌, Bool, false}
use Rattle.std.specs.List.{list_any}
use Rattle.asl_lsp_positions.specs.Positions.{is_feed, is_line_end}

-- how a line ends
pub data LineEnd : Type 0 where
  feed : LineEnd
  return : LineEnd
  return_feed : LineEnd

abbrev pub end_text : LineEnd → List ℕ
end_text feed = 10 ∷ []
end_text return = 13 ∷ []
end_text return_feed = 13 ∷ 10 ∷ []

-- what stands in a line, and how it ends
abbrev pub Line : Type 0
Line = List ℕ × LineEnd

-- these lines, and what stands behind them
abbrev pub joined : List Line → List ℕ → List ℕ
joined [] rest = rest
joined (l ∷ ls) rest = l.0 ++ (end_text l.1 ++ joined ls rest)

abbrev pub IsInOneLine : List ℕ → Type 0
IsInOneLine t = list_any is_line_end t ≡ false

abbrev pub begins_with_feed : List ℕ → Bool
begins_with_feed [] = false
begins_with_feed (c ∷ cs) = is_feed c

-- a carriage return and a line feed behind it are one end of a line
abbrev pub EndsSo : LineEnd → List ℕ → Type 0
EndsSo return t = begins_with_feed t ≡ false
EndsSo e t = Unit {0}

-- the lines end where it is said, and nowhere else
abbrev pub AreLines : List Line → List ℕ → Type 0
AreLines [] rest = IsInOneLine rest
AreLines (l ∷ ls) rest = IsInOneLine l.0 × EndsSo l.1 (joined ls rest) × AreLines ls rest
