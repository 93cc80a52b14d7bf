-- The text of a value for a person: each item and each member on a line of its own, two spaces deeper than
-- what holds it; a space behind the colon of a member. Empty lists and objects, and all else, are written as
-- in the compact text.
use Rattle.std.specs.Prelude.{ℕ, true, false, List, [], ◌∷◌, ◌++◌}
use Rattle.asl_json_data.specs.Data.{Data, null, boolean, number, text, list, dict, Chain, no_items, item, Pairs, no_members, member}
use Rattle.asl_json_data.specs.Grammar.{colon, open_bracket, close_bracket, open_brace, close_brace, null_word, true_word, false_word}
use Rattle.asl_json_data.specs.Parts.{comma}
use Rattle.asl_json_data.specs.Compact.{quoted}

-- behind the line feed and the spaces of one level: those of the next
abbrev pub deeper : List ℕ → List ℕ
deeper line = line ++ 32 ∷ 32 ∷ []

abbrev mutual
  -- a value that stands on such a line
  pub pretty_at : List ℕ → Data → List ℕ
  pretty_at line null = null_word
  pretty_at line (boolean true) = true_word
  pretty_at line (boolean false) = false_word
  pretty_at line (number s) = s
  pretty_at line (text s) = quoted s
  pretty_at line (list ds) = open_bracket ∷ pretty_items line ds
  pretty_at line (dict ms) = open_brace ∷ pretty_members line ms

  -- with the closing bracket
  pub pretty_items : List ℕ → Chain → List ℕ
  pretty_items line no_items = close_bracket ∷ []
  pretty_items line (item d ds) =
      deeper line ++ (pretty_at (deeper line) d ++ pretty_more_items line ds)

  pub pretty_more_items : List ℕ → Chain → List ℕ
  pretty_more_items line no_items = line ++ close_bracket ∷ []
  pretty_more_items line (item d ds) =
      comma ∷ (deeper line ++ (pretty_at (deeper line) d ++ pretty_more_items line ds))

  -- with the closing brace
  pub pretty_members : List ℕ → Pairs → List ℕ
  pretty_members line no_members = close_brace ∷ []
  pretty_members line (member k d ms) =
      deeper line
      ++ ((quoted k ++ colon ∷ 32 ∷ pretty_at (deeper line) d) ++ pretty_more line ms)

  pub pretty_more : List ℕ → Pairs → List ℕ
  pretty_more line no_members = line ++ close_brace ∷ []
  pretty_more line (member k d ms) =
      comma ∷ (deeper line
      ++ ((quoted k ++ colon ∷ 32 ∷ pretty_at (deeper line) d) ++ pretty_more line ms))

abbrev pub pretty : Data → List ℕ
pretty v = pretty_at (10 ∷ []) v
