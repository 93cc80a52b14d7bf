use Rattle.std.proofs.Common.{◌∙◌, ap, rules}
use Rattle.std.specs.Prelude.{not}
use Rattle.std.proofs.lemmas.Fn.{filter_same}
use Rattle.asl_json.specs.Same.{bytes_eq}
use Rattle.asl_lsp.specs.declared.document.Document.{Document}
use Rattle.asl_lsp.specs.Documents.{without}
use Rattle.asl_lsp.proofs.documents.Documents.remove.Goals as goal

pub returns : goal.returns
returns c = filter_same _ (λ (d : Document). not (bytes_eq d.uri c.args.uri.now)) _ (λ x b f s. search rules) _ _ c.retain.ensures.filtered ∙ ap (without c.args.uri.now) c.self.view_is
