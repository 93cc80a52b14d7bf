-- What stands in an input (Language Server Protocol 3.17, "Base Protocol"): messages, each of a header part, whose lines CR LF terminates, an empty line, and a content part.
use Rattle.std.specs.Prelude.{◌≡◌, ◌⊎◌, ℕ, ◌≤◌, ◌<◌, ◌==◌, ◌||◌, ◌&&◌, Bool, false, List, [], ◌∷◌, ◌++◌, length}
use Rattle.asl_base_protocol.specs.declared.item.Item.{Item}
use Rattle.asl_base_protocol.specs.declared.item.Item.TheVariants.{Content, BadHeader, TooLong}
use Rattle.asl_base_protocol.specs.declared.said.Said.{Said}
use Rattle.asl_base_protocol.specs.declared.said.Said.TheVariants.{Length}
use Rattle.asl_base_protocol.specs.Fields.{said, IsNoLength}

-- how many bytes a header part may have, and a content part
abbrev pub longest_header : ℕ
longest_header = 4096

abbrev pub longest_content : ℕ
longest_content = 16777216

abbrev pub crlf : List ℕ
crlf = 13 ∷ 10 ∷ []

-- whether CR LF stands in it; the first byte may be its LF where it stands behind a CR
abbrev pub has_crlf : Bool → List ℕ → Bool
has_crlf cr [] = false
has_crlf cr (c ∷ cs) = (cr && (c == 10)) || has_crlf (c == 13) cs

-- a line that isn't empty, without the CR LF that terminates it
abbrev pub IsLine : List ℕ → Type 0
IsLine [] = ⊥
IsLine (c ∷ cs) = has_crlf false (c ∷ cs) ≡ false

abbrev pub AreLines : List (List ℕ) → Type 0
AreLines [] = Unit {0}
AreLines (l ∷ ls) = IsLine l × AreLines ls

abbrev pub lines_text : List (List ℕ) → List ℕ
lines_text [] = []
lines_text (l ∷ ls) = l ++ (crlf ++ lines_text ls)

-- these lines and the empty one
abbrev pub header_text : List (List ℕ) → List ℕ
header_text ls = lines_text ls ++ crlf

-- a header part that hasn't ended: whole lines, and what has come of the next
pub record IsHeading (t : List ℕ) : Type 0 where
  pub lines : List (List ℕ)
  pub line : List ℕ
  pub parts : t ≡ lines_text lines ++ line
  pub lines_are : AreLines lines
  pub line_is : has_crlf false line ≡ false

-- a header part that has ended, and some bytes behind it
pub record IsHeaded (P : Said → List ℕ → Type 0) (t : List ℕ) : Type 0 where
  pub lines : List (List ℕ)
  pub body : List ℕ
  pub parts : t ≡ header_text lines ++ body
  pub lines_are : AreLines lines
  pub short : length (header_text lines) ≤ longest_header
  pub body_is : P (said lines) body

-- what stands behind the header part of an item, by what that says
abbrev pub IsBody : Item → Said → List ℕ → Type 0
IsBody (Content b) s t = (s ≡ Length (length b)) × (length b ≤ longest_content) × (t ≡ b)
IsBody BadHeader s t = IsNoLength s × (t ≡ [])
IsBody (TooLong n) s t = (s ≡ Length n) × (longest_content < n) × (length t ≡ n)

-- less than what the header part says
abbrev pub IsPartOfBody : Said → List ℕ → Type 0
IsPartOfBody s t = (n : ℕ) × (s ≡ Length n) × (length t < n)

-- what can't be a header part any longer, since it hasn't ended in time; the next begins behind it
abbrev pub IsOverlong : List ℕ → Type 0
IsOverlong t = IsHeading t × (length t ≡ longest_header)

-- these bytes are the item
abbrev pub IsText : Item → List ℕ → Type 0
IsText (Content b) t = IsHeaded (IsBody (Content b)) t
IsText BadHeader t = IsHeaded (IsBody BadHeader) t ⊎ IsOverlong t
IsText (TooLong n) t = IsHeaded (IsBody (TooLong n)) t

-- what has come of an item that isn't whole yet
abbrev pub IsUnfinished : List ℕ → Type 0
IsUnfinished t = (IsHeading t × (length t < longest_header)) ⊎ IsHeaded IsPartOfBody t

-- the input is these items, one behind another, and the rest
abbrev pub Reads : List Item → List ℕ → List ℕ → Type 0
Reads [] rest input = (input ≡ rest) × IsUnfinished rest
Reads (i ∷ is) rest input =
    (text : List ℕ) × (more : List ℕ) × (input ≡ text ++ more) × IsText i text × Reads is rest more
