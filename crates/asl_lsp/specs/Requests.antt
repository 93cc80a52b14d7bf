-- What is answered to requests about a document (Language Server Protocol 3.17, "Language Features").
use Rattle.std.specs.Prelude.{ℕ, List, Option, Some, None}
use Rattle.asl_json_data.specs.Data.{Data, null}
use Rattle.asl_json_rpc.specs.declared.id.Id.{Id}
use Rattle.asl_lsp_positions.specs.declared.position.Encoding.{Encoding}
use Rattle.asl_lsp_positions.specs.declared.position.Position.{Position}
use Rattle.asl_lsp_features.specs.declared.spot.Sought.{Sought}
use Rattle.asl_lsp_features.specs.declared.spot.Sought.TheVariants.{Declaration}
use Rattle.asl_lsp_features.specs.Formatting.{formatted}
use Rattle.asl_lsp.specs.declared.document.Document.{Document}
use Rattle.asl_lsp.specs.declared.method.Query.{Query}
use Rattle.asl_lsp.specs.declared.method.Query.TheVariants as query
use Rattle.asl_lsp.specs.declared.refusal.Refusal.TheVariants as refusal
use Rattle.asl_lsp.specs.declared.session.Session.{Session}
use Rattle.asl_lsp.specs.Documents.{found}
use Rattle.asl_lsp.specs.Params.{uri_of, position_of, sought_of, new_name_of}
use Rattle.asl_lsp.specs.Replies.{Reply, result, refused, located, prepared, renamed}

-- ---- the answers: refused where the parameters don't fit

abbrev pub places : Id → Encoding → Document → Option Sought → Option Position → Reply
places i e d (Some w) (Some p) = located i e d w p
places i e d w p = refused i refusal.BadParams

abbrev pub preparing : Id → Encoding → Document → Option Position → Reply
preparing i e d (Some p) = prepared i e d p
preparing i e d None = refused i refusal.BadParams

abbrev pub renaming : Id → Encoding → Document → Option (List ℕ) → Option Position → Reply
renaming i e d (Some n) (Some p) = renamed i e d n p
renaming i e d n p = refused i refusal.BadParams

-- of a document that is open
abbrev pub asked_of : Id → Encoding → Document → Query → Option Data → Reply
asked_of i e d query.Formatting ps = result i (formatted e d.text)
asked_of i e d query.Definition ps = places i e d (Some Declaration) (position_of ps)
asked_of i e d query.References ps = places i e d (sought_of ps) (position_of ps)
asked_of i e d query.PrepareRename ps = preparing i e d (position_of ps)
asked_of i e d query.Rename ps = renaming i e d (new_name_of ps) (position_of ps)

-- of one that isn't: it has no layout, and the parameters of the others don't fit
abbrev pub unopened : Id → Query → Reply
unopened i query.Formatting = result i null
unopened i query.Definition = refused i refusal.BadParams
unopened i query.References = refused i refusal.BadParams
unopened i query.PrepareRename = refused i refusal.BadParams
unopened i query.Rename = refused i refusal.BadParams

-- ---- the document that is meant

abbrev pub asked_where : Id → Encoding → Query → Option Data → Option Document → Reply
asked_where i e q ps None = unopened i q
asked_where i e q ps (Some d) = asked_of i e d q ps

abbrev pub asked_about : Session → Id → Query → Option Data → Option (List ℕ) → Reply
asked_about s i q ps None = refused i refusal.BadParams
asked_about s i q ps (Some u) = asked_where i s.encoding q ps (found u s.documents)

abbrev pub asked : Session → Id → Query → Option Data → Reply
asked s i q ps = asked_about s i q ps (uri_of ps)
