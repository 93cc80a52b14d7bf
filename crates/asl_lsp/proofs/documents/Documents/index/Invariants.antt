use Rattle.std.proofs.Common.{◌≡◌, drop}
use Rattle.asl_lsp.specs.Documents.{document_index}
use Rattle.asl_lsp.proofs.Opened.{further}
use Rattle.asl_lsp.proofs.documents.Documents.index.Given as goal

abbrev pub invariant-loop-i : goal.invariant-loop-i
invariant-loop-i l = further l.i (document_index l.uri (drop l.i l.document-items)) ≡ document_index l.uri l.document-items
