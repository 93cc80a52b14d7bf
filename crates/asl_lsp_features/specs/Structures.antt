-- What many messages have (Language Server Protocol 3.17, "Basic JSON Structures").
use Rattle.std.specs.Prelude.{ℕ, List, [], ◌∷◌, take, min, codes}
use Rattle.std.specs.Fmt.{decimal}
use Rattle.asl_json_data.specs.Data.{Data, number, text, dict, pairs}
use Rattle.asl_json_spans.specs.declared.span.Span.{Span}
use Rattle.asl_lsp_positions.specs.declared.position.Encoding.{Encoding}
use Rattle.asl_lsp_positions.specs.declared.position.Position.{Position}
use Rattle.asl_lsp_positions.specs.Positions.{position}

-- an object of these members
abbrev pub object : List (List ℕ × Data) → Data
object ms = dict (pairs ms)

-- a number in plain decimal
abbrev pub counting : ℕ → Data
counting n = number (decimal n)

-- a number of the protocol, which has none above 2 ^ 31 - 1 ("Base Types"); no position in a text of
-- at most so many bytes comes to more
abbrev pub uinteger : ℕ → Data
uinteger n = counting (min n 2147483647)

-- ("Position")
abbrev pub point : Position → Data
point p =
    object ((codes "line", uinteger p.line) ∷ (codes "character", uinteger p.character) ∷ [])

-- the positions of both ends of a stretch of this text ("Range")
abbrev pub range : Encoding → List ℕ → Span → Data
range e t s =
    object
    ((codes "start", point (position e (take s.begin t)))
    ∷ (codes "end", point (position e (take s.end t)))
    ∷ [])

-- a stretch of the document with this text and URI ("Location")
abbrev pub location : Encoding → List ℕ → List ℕ → Span → Data
location e t u s = object ((codes "uri", text u) ∷ (codes "range", range e t s) ∷ [])

-- another text in place of a stretch ("TextEdit")
abbrev pub text_edit : Encoding → List ℕ → List ℕ → Span → Data
text_edit e t new s =
    object ((codes "range", range e t s) ∷ (codes "newText", text new) ∷ [])
