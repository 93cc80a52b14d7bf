-- Where the names of one state stand in a document (Language Server Protocol 3.17, "Goto Definition Request" and "Find References Request").
use Rattle.std.specs.Prelude.{◌≡◌, ℕ, List, Option, Some, None, map}
use Rattle.asl_json_data.specs.Data.{Data, null, list, chain}
use Rattle.asl_json_read.specs.Reading.{value_read}
use Rattle.asl_json_spans.specs.declared.span.Span.{Span}
use Rattle.asl_lsp_positions.specs.declared.position.Encoding.{Encoding}
use Rattle.asl_lsp_positions.specs.declared.position.Position.{Position}
use Rattle.asl_lsp_positions.specs.Positions.{offset}
use Rattle.asl_lsp_features.specs.declared.spot.Spot.{Spot}
use Rattle.asl_lsp_features.specs.declared.spot.Sought.{Sought}
use Rattle.asl_lsp_features.specs.Spots.{AreSpotsIn, at_offset, spans_of}
use Rattle.asl_lsp_features.specs.Structures.{location}

abbrev pub locations : Encoding → List ℕ → List ℕ → List Span → Data
locations e u t ss = list (chain (map (location e t u) ss))

-- of the state with this name, of these
abbrev pub located_of : Encoding → List ℕ → List ℕ → Sought → List Spot → Option Spot → Data
located_of e u t w ss None = null
located_of e u t w ss (Some s) = locations e u t (spans_of w s.mention ss)

-- of the state whose name is at this position, of these in the text, if it spells a value; null where there is none
abbrev pub located_among : Encoding → List ℕ → List ℕ → Sought → Position → Option (List Spot) → Data
located_among e u t w p None = null
located_among e u t w p (Some ss) = located_of e u t w ss (at_offset (offset e t p) ss)

-- ... in the document with this URI and text
pub record IsLocated (e : Encoding) (u t : List ℕ) (w : Sought) (p : Position) (d : Data) : Type 0 where
  pub spots : Option (List Spot)
  pub are : AreSpotsIn t (value_read t) spots
  pub is : d ≡ located_among e u t w p spots
