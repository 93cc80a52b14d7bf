-- Names and values as a person reads them: on one line, short, and every character shows.
use Rattle.std.specs.Prelude.{ℕ, zero, suc, Bool, List, [], ◌∷◌, ◌++◌, ◌||◌, not, ◌==◌, if◌then◌else◌, codes}
use Rattle.std.specs.List.{list_any}
use Rattle.std.specs.Str.{chars}
use Rattle.asl_json_data.specs.Data.{Data}
use Rattle.asl_json_data.specs.Compact.{compact, quoted}
use Rattle.asl_text.specs.Shown.{is_hidden, shown_char, shown}

-- ---- names

-- hidden, or a quotation mark
abbrev pub is_out_of_place : ℕ → Bool
is_out_of_place c = is_hidden c || (c == 34)

abbrev pub is_plain : List ℕ → Bool
is_plain n = not (list_any is_out_of_place (chars n))

-- as it is; where that would not do, as a JSON text
abbrev pub name_text : List ℕ → List ℕ
name_text n = if is_plain n then n else shown (quoted n)

-- ---- values

-- the first so many characters; where there are more, two full stops behind them
abbrev pub first_chars : ℕ → List ℕ → List ℕ
first_chars n [] = []
first_chars zero (c ∷ cs) = codes ".."
first_chars (suc n) (c ∷ cs) = shown_char c ++ first_chars n cs

-- so many characters are shown of a value
abbrev pub most_chars : ℕ
most_chars = 60

-- its compact text, of which a long one is cut
abbrev pub short : Data → List ℕ
short d = first_chars most_chars (chars (compact d))
