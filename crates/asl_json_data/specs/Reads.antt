-- Which bytes spell which value within the limits of a value.
use Rattle.std.specs.Prelude.{ℕ, ◌≤◌, true, List, length}
use Rattle.std.specs.Str.{IsUtf8}
use Rattle.asl_json_data.specs.Data.{Data}
use Rattle.asl_json_data.specs.Grammar.{IsText}
use Rattle.asl_json_data.specs.Limits.{Allowed, max_len}

-- the bytes are a JSON text of the value, in the limits
abbrev pub Reads : List ℕ → Data → Type 0
Reads b v = IsText b v × Allowed true 0 v

-- a text in UTF-8 of at most so many bytes that spells the value within the limits
pub record ReadsAs (b : List ℕ) (v : Data) : Type 0 where
  pub fits : length b ≤ max_len
  pub utf8 : IsUtf8 b
  pub reads : Reads b v
