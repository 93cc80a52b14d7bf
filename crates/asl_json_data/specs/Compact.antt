-- The compact text of a value: no spaces, members in order, numbers as spelled; in texts the quote,
-- the backslash and the
-- controls below a space are escaped, by a letter where there is one, and nothing else is.
use Rattle.std.specs.Prelude.{ℕ, zero, suc, ◌≤◌, ◌/◌, ◌%◌, ◌==◌, ◌||◌, nat_lt, cond, List, [], ◌∷◌, ◌++◌, length, true, false, Option, Some, None}
use Rattle.asl_json_data.specs.Data.{Data, null, boolean, number, text, list, dict, Chain, no_items, item, Pairs, no_members, member}
use Rattle.asl_json_data.specs.Grammar.{colon, open_bracket, close_bracket, open_brace, close_brace, null_word, true_word, false_word}
use Rattle.asl_json_data.specs.Parts.{comma}
use Rattle.asl_json_data.specs.Text.{quote, backslash, letter_u}
use Rattle.std.specs.Char.{digit_char}
use Rattle.asl_json_data.specs.Number.{IsNumeral}
use Rattle.asl_json_data.specs.Limits.{Allowed, max_len}

-- the letter that stands for a control
unfoldable pub control_letter : ℕ → Option ℕ
control_letter c =
    cond (c == 8) (Some 98)
    (cond (c == 9) (Some 116)
    (cond (c == 10) (Some 110) (cond (c == 12) (Some 102) (cond (c == 13) (Some 114) None))))

-- by its letter, else by four lower-case digits
abbrev pub escaped_control : ℕ → Option ℕ → List ℕ
escaped_control c (Some letter) = backslash ∷ letter ∷ []
escaped_control c None =
    backslash ∷ letter_u ∷ 48 ∷ 48 ∷ digit_char (c / 16) ∷ digit_char (c % 16) ∷ []

unfoldable pub escaped_byte : ℕ → List ℕ
escaped_byte c =
    cond ((c == quote) || (c == backslash)) (backslash ∷ c ∷ [])
    (cond (nat_lt c 32) (escaped_control c (control_letter c)) (c ∷ []))

abbrev pub escaped : List ℕ → List ℕ
escaped [] = []
escaped (c ∷ cs) = escaped_byte c ++ escaped cs

abbrev pub quoted : List ℕ → List ℕ
quoted s = quote ∷ (escaped s ++ quote ∷ [])

-- what stands before a part with this number
abbrev pub separator : ℕ → List ℕ
separator zero = []
separator (suc i) = comma ∷ []

abbrev mutual
  pub compact : Data → List ℕ
  compact null = null_word
  compact (boolean true) = true_word
  compact (boolean false) = false_word
  compact (number s) = s
  compact (text s) = quoted s
  compact (list ds) = open_bracket ∷ compact_items ds
  compact (dict ms) = open_brace ∷ compact_members ms

  pub compact_items : Chain → List ℕ
  compact_items no_items = close_bracket ∷ []
  compact_items (item d ds) = compact d ++ compact_more_items ds

  pub compact_more_items : Chain → List ℕ
  compact_more_items no_items = close_bracket ∷ []
  compact_more_items (item d ds) = comma ∷ (compact d ++ compact_more_items ds)

  -- with the closing brace
  pub compact_members : Pairs → List ℕ
  compact_members no_members = close_brace ∷ []
  compact_members (member k d ms) = (quoted k ++ colon ∷ compact d) ++ compact_more ms

  pub compact_more : Pairs → List ℕ
  compact_more no_members = close_brace ∷ []
  compact_more (member k d ms) = comma ∷ ((quoted k ++ colon ∷ compact d) ++ compact_more ms)

-- a value of which the grammar has texts
abbrev mutual
  pub IsSpellable : Data → Type 0
  IsSpellable null = Unit {0}
  IsSpellable (boolean b) = Unit {0}
  IsSpellable (number s) = IsNumeral s
  IsSpellable (text s) = Unit {0}
  IsSpellable (list ds) = AreSpellableItems ds
  IsSpellable (dict ms) = AreSpellable ms

  pub AreSpellableItems : Chain → Type 0
  AreSpellableItems no_items = Unit {0}
  AreSpellableItems (item d ds) = IsSpellable d × AreSpellableItems ds

  pub AreSpellable : Pairs → Type 0
  AreSpellable no_members = Unit {0}
  AreSpellable (member k d ms) = IsSpellable d × AreSpellable ms

-- a value that is read from some bytes
pub record IsReadable (v : Data) : Type 0 where
  pub spellable : IsSpellable v
  pub allowed : Allowed true 0 v
  pub fits : length (compact v) ≤ max_len
