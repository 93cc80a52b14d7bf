use Rattle.asl_lsp.specs.Params.{uri_of, opened_document, changed_document}
use Rattle.asl_lsp.proofs.Isolation.{opened_found, changed_found, closed_found}
use Rattle.asl_lsp.proofs.laws.an_open_document_has_its_last_text.Goals as goal

pub returns : goal.returns
returns c = record {
  opened = λ s ps d e. opened_found s (opened_document ps) d e;
  changed = λ s ps d e there. changed_found s (changed_document ps) d e there;
  closed = λ s ps u e. closed_found s (uri_of ps) u e;
}
