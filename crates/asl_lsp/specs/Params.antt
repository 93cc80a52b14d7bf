-- The parameters of messages.
use Rattle.std.specs.Prelude.{ℕ, Bool, true, false, ◌||◌, List, Option, Some, None, codes, if◌then◌else◌}
use Rattle.asl_json_data.specs.Data.{Data, text, dict, Chain, no_items}
use Rattle.asl_json_data.specs.Data as values
use Rattle.asl_json.specs.Same.{bytes_eq}
use Rattle.asl_lsp_positions.specs.declared.position.Encoding.{Encoding}
use Rattle.asl_lsp_positions.specs.declared.position.Encoding.TheVariants as encoding
use Rattle.asl_lsp_positions.specs.declared.position.Position.{Position}
use Rattle.asl_lsp_features.specs.declared.spot.Sought.{Sought}
use Rattle.asl_lsp_features.specs.declared.spot.Sought.TheVariants.{References, Every}
use Rattle.asl_lsp.specs.declared.document.Document.{Document}
use Rattle.asl_lsp.specs.Members.{member_of, text_of, integer_of, uinteger_of, boolean_of, items_of_any, last_item}

-- ---- of `initialize` (Language Server Protocol 3.17, "Initialize Request")

abbrev pub is_object : Option Data → Bool
is_object (Some (dict ms)) = true
is_object o = false

-- whether this is the name of UTF-8 ("Position Encoding Kind")
abbrev pub is_utf8 : Data → Bool
is_utf8 (text s) = bytes_eq s (codes "utf-8")
is_utf8 d = false

abbrev pub has_utf8 : Chain → Bool
has_utf8 no_items = false
has_utf8 (values.item d ds) = is_utf8 d || has_utf8 ds

-- positions count bytes where the client offers it, else code units of UTF-16
abbrev pub encoding_of : Option Data → Encoding
encoding_of ps =
    if has_utf8
    (items_of_any
    (member_of (codes "positionEncodings")
    (member_of (codes "general") (member_of (codes "capabilities") ps))))
    then encoding.Utf8
    else encoding.Utf16

-- none where the parameters don't fit: they have an object of capabilities
abbrev pub offered : Option Data → Option Encoding
offered ps =
    if is_object (member_of (codes "capabilities") ps) then Some (encoding_of ps) else None

-- ---- of what happens to documents ("Text Document Synchronization")

abbrev pub item : Option Data → Option Data
item ps = member_of (codes "textDocument") ps

abbrev pub uri_of : Option Data → Option (List ℕ)
uri_of ps = text_of (member_of (codes "uri") (item ps))

-- none where something of it is lacking
abbrev pub document_by : Option (List ℕ) → Option (List ℕ) → Option (List ℕ) → Option Document
document_by (Some u) (Some v) (Some t) = Some (record { uri = u; version = v; text = t })
document_by u v t = None

-- the document that is meant, with this text
abbrev pub document_of : Option Data → Option Data → Option Document
document_of ps t =
    document_by (uri_of ps) (integer_of (member_of (codes "version") (item ps))) (text_of t)

abbrev pub opened_document : Option Data → Option Document
opened_document ps = document_of ps (member_of (codes "text") (item ps))

-- of several changes the last one decides, since each is the whole text
abbrev pub changed_document : Option Data → Option Document
changed_document ps =
    document_of ps
    (member_of (codes "text") (last_item None (items_of_any (member_of (codes "contentChanges") ps))))

-- ---- of what is asked about a document ("Language Features")

-- none where something of it is lacking
abbrev pub position_by : Option ℕ → Option ℕ → Option Position
position_by (Some l) (Some c) = Some (record { line = l; character = c })
position_by l c = None

abbrev pub position_of : Option Data → Option Position
position_of ps =
    position_by (uinteger_of (member_of (codes "line") (member_of (codes "position") ps)))
    (uinteger_of (member_of (codes "character") (member_of (codes "position") ps)))

-- the references, with the declaration or without it ("ReferenceContext")
abbrev pub sought_by : Option Bool → Option Sought
sought_by None = None
sought_by (Some true) = Some Every
sought_by (Some false) = Some References

abbrev pub sought_of : Option Data → Option Sought
sought_of ps =
    sought_by (boolean_of (member_of (codes "includeDeclaration") (member_of (codes "context") ps)))

-- ("RenameParams")
abbrev pub new_name_of : Option Data → Option (List ℕ)
new_name_of ps = text_of (member_of (codes "newName") ps)
