-- What the server can do (Language Server Protocol 3.17, "InitializeResult", "ServerCapabilities", "TextDocumentSyncOptions" and "RenameOptions").
use Rattle.std.specs.Prelude.{ℕ, true, List, [], ◌∷◌, codes}
use Rattle.asl_json_data.specs.Data.{Data, boolean, text}
use Rattle.asl_lsp_positions.specs.declared.position.Encoding.{Encoding}
use Rattle.asl_lsp_positions.specs.declared.position.Encoding.TheVariants as encoding
use Rattle.asl_lsp_features.specs.Structures.{object, counting}

abbrev pub encoding_name : Encoding → List ℕ
encoding_name encoding.Utf8 = codes "utf-8"
encoding_name encoding.Utf16 = codes "utf-16"

-- it is told that documents are opened and closed, their whole text after each change (1, "Full"), and that they are saved
abbrev pub sync : Data
sync =
    object
    ((codes "openClose", boolean true)
    ∷ (codes "change", counting 1)
    ∷ (codes "save", boolean true)
    ∷ [])

-- a name can be asked for before it is changed
abbrev pub rename_options : Data
rename_options = object ((codes "prepareProvider", boolean true) ∷ [])

abbrev pub capabilities : Encoding → Data
capabilities e =
    object
    ((codes "positionEncoding", text (encoding_name e))
    ∷ (codes "textDocumentSync", sync)
    ∷ (codes "definitionProvider", boolean true)
    ∷ (codes "referencesProvider", boolean true)
    ∷ (codes "documentFormattingProvider", boolean true)
    ∷ (codes "renameProvider", rename_options)
    ∷ [])

abbrev pub server_info : Data
server_info =
    object ((codes "name", text (codes "asl")) ∷ (codes "version", text (codes "0.1.0")) ∷ [])

abbrev pub initialize_result : Encoding → Data
initialize_result e =
    object ((codes "capabilities", capabilities e) ∷ (codes "serverInfo", server_info) ∷ [])
