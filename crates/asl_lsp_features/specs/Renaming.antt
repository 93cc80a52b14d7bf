-- Another name for a state of a document (Language Server Protocol 3.17, "Rename Request" and "Prepare Rename Request").
use Rattle.std.specs.Prelude.{◌≡◌, ℕ, Bool, true, false, ◌&&◌, ◌||◌, not, nat_lt, nat_le, count_by, List, [], ◌∷◌, Option, Some, None, Result, Ok, Err, map, codes, if◌then◌else◌}
use Rattle.asl_json_data.specs.Compact.{quoted}
use Rattle.asl_json_data.specs.Data.{Data, null, text, list, chain}
use Rattle.asl_json.specs.Same.{bytes_eq}
use Rattle.asl_json.specs.View.{data_of}
use Rattle.asl_json_read.specs.Reading.{value_read}
use Rattle.asl_json_spans.specs.declared.span.Span.{Span}
use Rattle.asl_json_spans.specs.Position.{begins_character}
use Rattle.asl_lsp_positions.specs.declared.position.Encoding.{Encoding}
use Rattle.asl_lsp_positions.specs.declared.position.Position.{Position}
use Rattle.asl_lsp_positions.specs.Positions.{offset}
use Rattle.asl_lsp_features.specs.declared.spot.Spot.{Spot}
use Rattle.asl_lsp_features.specs.declared.spot.Sought.TheVariants.{Every}
use Rattle.asl_lsp_features.specs.declared.renaming.RenameFault.{RenameFault}
use Rattle.asl_lsp_features.specs.declared.renaming.RenameFault.TheVariants.{NoState, NoName, TakenName}
use Rattle.asl_lsp_features.specs.declared.renaming.RenameAnswer.{RenameAnswer}
use Rattle.asl_lsp_features.specs.declared.renaming.RenameAnswer.TheVariants.{Edit, Refused}
use Rattle.asl_lsp_features.specs.Spots.{AreSpotsIn, at_offset, spans_of}
use Rattle.asl_lsp_features.specs.Structures.{object, range, text_edit}

-- ---- whether a name at a position can be changed: null where there is none

abbrev pub prepared_of : Encoding → List ℕ → Option Spot → Data
prepared_of e t None = null
prepared_of e t (Some s) =
    object ((codes "range", range e t s.span) ∷ (codes "placeholder", text s.mention.name) ∷ [])

abbrev pub prepared_among : Encoding → List ℕ → Position → Option (List Spot) → Data
prepared_among e t p None = null
prepared_among e t p (Some ss) = prepared_of e t (at_offset (offset e t p) ss)

-- in this text
pub record IsPrepared (e : Encoding) (t : List ℕ) (p : Position) (d : Data) : Type 0 where
  pub spots : Option (List Spot)
  pub are : AreSpotsIn t (value_read t) spots
  pub is : d ≡ prepared_among e t p spots

-- ---- names

-- a state's name has from 1 to 80 characters (Amazon States Language, "States")
abbrev pub is_name : List ℕ → Bool
is_name n = nat_lt 0 (count_by begins_character n) && nat_le (count_by begins_character n) 80

-- whether a state has this name already; a name is of one state in the whole definition
abbrev pub is_taken : List ℕ → List Spot → Bool
is_taken n [] = false
is_taken n (s ∷ ss) = (s.mention.is_key && bytes_eq n s.mention.name) || is_taken n ss

-- ---- the change

-- ("WorkspaceEdit")
abbrev pub workspace_edit : Encoding → List ℕ → List ℕ → List ℕ → List Span → Data
workspace_edit e u t new ss =
    object
    ((codes "changes", object ((u, list (chain (map (text_edit e t new) ss))) ∷ [])) ∷ [])

-- an edit, or why there is none
abbrev pub Outcome : Type 0
Outcome = Result Data RenameFault

abbrev pub outcome_of : RenameAnswer → Outcome
outcome_of (Edit v) = Ok (data_of v)
outcome_of (Refused f) = Err f

-- each name of the state that s names, of these, gives way to n
abbrev pub renamed_to : Encoding → List ℕ → List ℕ → List ℕ → List Spot → Spot → Outcome
renamed_to e u t n ss s =
    if not (is_name n) then Err NoName
    else if is_taken n ss then Err TakenName
    else Ok (workspace_edit e u t (quoted n) (spans_of Every s.mention ss))

abbrev pub renamed_of : Encoding → List ℕ → List ℕ → List ℕ → List Spot → Option Spot → Outcome
renamed_of e u t n ss None = Err NoState
renamed_of e u t n ss (Some s) = renamed_to e u t n ss s

abbrev pub renamed_among : Encoding → List ℕ → List ℕ → List ℕ → Position → Option (List Spot) → Outcome
renamed_among e u t n p None = Err NoState
renamed_among e u t n p (Some ss) = renamed_of e u t n ss (at_offset (offset e t p) ss)

-- ... of the state whose name is at a position, in the document with this URI and text
pub record IsRenamed (e : Encoding) (u t n : List ℕ) (p : Position) (o : Outcome) : Type 0 where
  pub spots : Option (List Spot)
  pub are : AreSpotsIn t (value_read t) spots
  pub is : o ≡ renamed_among e u t n p spots
