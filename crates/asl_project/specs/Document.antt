-- Which bytes are a TOML text, and of which table.
use Rattle.std.specs.Prelude.{◌≡◌, ℕ, List, Some, IsUtf8}
use Rattle.toml.specs.Data.{Members}
use Rattle.toml.specs.Parse.{parse_document}

-- the bytes are a text in UTF-8 that is a TOML document of this table
pub record IsDocument (b : List ℕ) (ms : Members) : Type 0 where
  pub utf8 : IsUtf8 b
  pub reads : parse_document b ≡ Some ms

-- they are none of any table
abbrev pub IsNoDocument : List ℕ → Type 0
IsNoDocument b = (ms : Members) → IsDocument b ms → ⊥
