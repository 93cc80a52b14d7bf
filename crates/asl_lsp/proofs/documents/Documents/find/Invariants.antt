use Rattle.std.proofs.Common.{◌≡◌, drop}
use Rattle.asl_lsp.specs.Documents.{found}
use Rattle.asl_lsp.proofs.documents.Documents.find.Given as goal

abbrev pub invariant-loop-document : goal.invariant-loop-document
invariant-loop-document l = found l.uri (drop l.document-index l.document-items) ≡ found l.uri l.document-items
