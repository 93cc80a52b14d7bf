-- The open documents.
use Rattle.std.specs.Prelude.{ℕ, suc, Bool, not, List, [], ◌∷◌, Option, Some, None, option_map, is_some, if◌then◌else◌}
use Rattle.std.specs.List.{filter}
use Rattle.asl_json.specs.Same.{bytes_eq}
use Rattle.asl_lsp.specs.declared.document.Document.{Document}

-- the number of the document with this URI
abbrev pub document_index : List ℕ → List Document → Option ℕ
document_index u [] = None
document_index u (d ∷ ds) =
    if bytes_eq u d.uri then Some 0 else option_map suc (document_index u ds)

-- the document with this URI
abbrev pub found : List ℕ → List Document → Option Document
found u [] = None
found u (d ∷ ds) = if bytes_eq u d.uri then Some d else found u ds

abbrev pub is_open : List ℕ → List Document → Bool
is_open u ds = is_some (found u ds)

-- a document in place of the one with its URI, else behind the others
abbrev pub put : Document → List Document → List Document
put d [] = d ∷ []
put d (e ∷ es) = if bytes_eq d.uri e.uri then d ∷ es else e ∷ put d es

-- without the one with this URI
abbrev pub without : List ℕ → List Document → List Document
without u ds = filter (λ (d : Document). not (bytes_eq d.uri u)) ds
