-- What the position of an offset in a document is (Language Server Protocol 3.17, "Text Documents" and "Position"), by the bytes of
-- the document before it.
use Rattle.std.specs.Prelude.{ℕ, zero, suc, ◌+◌, List, [], ◌∷◌, ◌==◌, ◌||◌, ◌&&◌, not, Bool, false, nat_lt, nat_le, length, take, if◌then◌else◌}
use Rattle.std.specs.List.{after_last, sum_by}
use Rattle.asl_lsp_positions.specs.declared.position.Encoding.{Encoding}
use Rattle.asl_lsp_positions.specs.declared.position.Encoding.TheVariants as encoding
use Rattle.asl_lsp_positions.specs.declared.position.Position.{Position}

-- ---- lines

abbrev pub is_feed : ℕ → Bool
is_feed c = c == 10

abbrev pub is_return : ℕ → Bool
is_return c = c == 13

-- a line ends with a line feed, with a carriage return, or with a carriage return and a line feed
abbrev pub is_line_end : ℕ → Bool
is_line_end c = is_feed c || is_return c

-- how many lines a byte ends: a line feed right behind a carriage return ends none of its own
abbrev pub ends_here : Bool → ℕ → ℕ
ends_here is_behind_return c = if is_return c || (is_feed c && not is_behind_return) then 1 else 0

-- ... and how many these bytes end, by whether a carriage return stands before them
abbrev pub ends_behind : Bool → List ℕ → ℕ
ends_behind r [] = 0
ends_behind r (c ∷ cs) = ends_here r c + ends_behind (is_return c) cs

abbrev pub line_ends : List ℕ → ℕ
line_ends t = ends_behind false t

-- ---- offsets in a line

-- the code units that a character has in UTF-16, by the first byte that it has in UTF-8: two from four bytes on.
-- The bytes behind its first one add none
abbrev pub utf16_units : ℕ → ℕ
utf16_units c =
    if nat_lt c 128 then 1 else if nat_lt c 192 then 0 else if nat_lt c 240 then 1 else 2

abbrev pub units : Encoding → ℕ → ℕ
units encoding.Utf8 c = 1
units encoding.Utf16 c = utf16_units c

abbrev pub width : Encoding → List ℕ → ℕ
width e t = sum_by (units e) t

-- ---- positions

-- behind these bytes: the lines that end in them, and the width of what stands behind the last line end
abbrev pub position : Encoding → List ℕ → Position
position e t = record { line = line_ends t; character = width e (after_last is_line_end t) }

-- ---- offsets of positions

-- whether a position isn't behind another one
abbrev pub is_up_to : Position → Position → Bool
is_up_to p q = nat_lt p.line q.line || (p.line == q.line && nat_le p.character q.character)

-- the last of the offsets in a text, from this one back, whose position isn't behind p
abbrev pub last_up_to : Encoding → List ℕ → Position → ℕ → ℕ
last_up_to e t p zero = 0
last_up_to e t p (suc n) =
    if is_up_to (position e (take (suc n) t)) p then suc n else last_up_to e t p n

-- the offset of a position in a text: the last one whose position isn't behind it. So a character behind the end of its
-- line is that end, a line behind the last one the end of the text, and the inside of a character its beginning
abbrev pub offset : Encoding → List ℕ → Position → ℕ
offset e t p = last_up_to e t p (length t)
