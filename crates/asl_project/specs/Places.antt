-- Where in a text something of its table stands: at the entry by which the table first has it. An entry is a key with its value, or a
-- header; it begins on a line of its own.
use Rattle.std.specs.Prelude.{◌≡◌, ◌≤◌, ◌<◌, ℕ, ◌+◌, ◌-◌, ◌==◌, ◌||◌, Bool, true, false, List, [], ◌∷◌, length, take, drop, slice_index, if◌then◌else◌, Option, Some, None}
use Rattle.toml.specs.Data.{Members}
use Rattle.asl_json_spans.specs.Position.{IsPosition}
use Rattle.asl_json_spans.specs.declared.position.Position.{Position}
use Rattle.asl_project.specs.Document.{IsDocument, IsNoDocument}
use Rattle.asl_project.specs.declared.fronts.Front.{Front}
use Rattle.asl_project.specs.declared.fronts.Front.TheVariants.{Cut, Without, With}

-- ---- the fronts of a text

-- the bytes are a TOML text whose table has it, or hasn't it
pub record IsTableThat (shown : Members → Bool) (has : Bool) (b : List ℕ) : Type 0 where
  pub table : Members
  pub document : IsDocument b table
  pub is_shown : shown table ≡ has

abbrev pub IsFront : List ℕ → (Members → Bool) → Front → Type 0
IsFront b shown Cut = IsNoDocument b
IsFront b shown Without = IsTableThat shown false b
IsFront b shown With = IsTableThat shown true b

-- a line ends before this byte
abbrev pub ends_line : List ℕ → ℕ → Bool
ends_line b end = end == length b || slice_index b (end - 1) == 10

-- no line between that ends before the second byte ends a TOML text
abbrev pub AreCut : List ℕ → ℕ → ℕ → Type 0
AreCut b begin until =
    (end : ℕ) → begin < end → end < until → ends_line b end ≡ true → IsNoDocument (take end b)

-- ---- an entry

-- an entry begins at this byte: what stands before it is a TOML text whose table hasn't it, and with the
-- lines up to the next whole text the table has it
pub record IsEntry (b : List ℕ) (shown : Members → Bool) (begin : ℕ) : Type 0 where
  pub until : ℕ
  pub further : begin < until
  pub within : until ≤ length b
  pub before : IsTableThat shown false (take begin b)
  pub behind : IsTableThat shown true (take until b)
  pub next : AreCut b begin until

-- its first byte; none where the text is no TOML text, or its table hasn't it
abbrev pub IsEntryIn : List ℕ → (Members → Bool) → Option ℕ → Type 0
IsEntryIn b shown (Some begin) = IsEntry b shown begin
IsEntryIn b shown None = IsTableThat shown true b → ⊥

-- ---- its place

abbrev pub is_blank : ℕ → Bool
is_blank c = c == 32 || c == 9

-- how many spaces and tabs stand in front
abbrev pub blanks : List ℕ → ℕ
blanks [] = 0
blanks (c ∷ cs) = if is_blank c then blanks cs + 1 else 0

-- where its key or its bracket stands
pub record IsPlace (b : List ℕ) (shown : Members → Bool) (p : Position) : Type 0 where
  pub begin : ℕ
  pub entry : IsEntry b shown begin
  pub at : p.at ≡ begin + blanks (drop begin b)
  pub position : IsPosition (take p.at b) p.lines p.characters

abbrev pub IsPlaceIn : List ℕ → (Members → Bool) → Option Position → Type 0
IsPlaceIn b shown (Some p) = IsPlace b shown p
IsPlaceIn b shown None = IsTableThat shown true b → ⊥
