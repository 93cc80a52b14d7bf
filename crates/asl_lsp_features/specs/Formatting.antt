-- The layout of a document (Language Server Protocol 3.17, "Document Formatting Request").
use Rattle.std.specs.Prelude.{ℕ, List, [], ◌∷◌, ◌++◌, Option, Some, None, length, if◌then◌else◌}
use Rattle.asl_json_data.specs.Data.{Data, null, list, chain}
use Rattle.asl_json.specs.Same.{bytes_eq}
use Rattle.asl_json_pretty.specs.Pretty.{pretty}
use Rattle.asl_json_read.specs.Reading.{value_read}
use Rattle.asl_json_spans.specs.declared.span.Span.{Span}
use Rattle.asl_lsp_positions.specs.declared.position.Encoding.{Encoding}
use Rattle.asl_lsp_features.specs.Structures.{text_edit}

-- the text of a value for a person, and a line feed behind it
abbrev pub layout : Data → List ℕ
layout v = pretty v ++ 10 ∷ []

abbrev pub whole : List ℕ → Span
whole t = record { begin = 0; end = length t }

-- this text in place of the whole text: no edit where it is the same
abbrev pub edits_to : Encoding → List ℕ → List ℕ → Data
edits_to e t new =
    if bytes_eq t new then list (chain [])
    else list (chain (text_edit e t new (whole t) ∷ []))

-- null where there is no value
abbrev pub formatted_as : Encoding → List ℕ → Option Data → Data
formatted_as e t None = null
formatted_as e t (Some v) = edits_to e t (layout v)

-- the edits that give a text the layout of its value; null where it spells none in the limits
abbrev pub formatted : Encoding → List ℕ → Data
formatted e t = formatted_as e t (value_read t)
