-- The text of a place in a value: a JSON Pointer (RFC 6901, sections 3 and 4).
use Rattle.std.specs.Prelude.{ℕ, List, [], ◌∷◌, ◌++◌, ◌==◌, if◌then◌else◌}
use Rattle.std.specs.List.{flat_map}
use Rattle.std.specs.Str.{chars}
use Rattle.std.specs.Char.{encode_utf8}
use Rattle.std.specs.Fmt.{decimal}

-- '~' is written ~0, and '/' is written ~1
abbrev pub escaped_char : ℕ → List ℕ
escaped_char c =
    if c == 126 then 126 ∷ 48 ∷ [] else if c == 47 then 126 ∷ 49 ∷ [] else encode_utf8 c

abbrev pub escaped : List ℕ → List ℕ
escaped t = flat_map escaped_char (chars t)

-- a step to the member of this name: a slash and the name
abbrev pub name_part : List ℕ → List ℕ
name_part k = 47 ∷ escaped k

-- a step to the item of this number
abbrev pub index_part : ℕ → List ℕ
index_part i = 47 ∷ decimal i

-- words and behind them the place that they are about, which isn't told if it is that of the whole value
abbrev pub with_pointer : List ℕ → List ℕ → List ℕ
with_pointer words [] = words
with_pointer words (b ∷ p) = words ++ 32 ∷ b ∷ p
