use Rattle.std.proofs.Common.{◌≡◌, ◌++◌, ◌∷◌, [], List, ℕ, Option, arith, slice_set, length, ap, sym, ◌∙◌}
use Rattle.asl_lsp.specs.declared.document.Document.{Document}
use Rattle.asl_lsp.specs.Documents.{document_index}
use Rattle.asl_lsp.proofs.Opened.{index_within, put_there, put_behind}
use Rattle.asl_lsp.proofs.documents.Documents.put.Goals as goal

-- the number that was found is that of the document
numbered : (u v : List ℕ) (ds : List Document) (r o : Option ℕ) → v ≡ u → r ≡ document_index v ds → r ≡ o → document_index u ds ≡ o
numbered u v ds r o a e k = ap (λ (w : List ℕ). document_index w ds) (sym a) ∙ sym e ∙ k

pub index_mut-requires : goal.index_mut-requires
index_mut-requires c =
    let within = index_within c.args.document.uri c.args.self.now c.in-Some.i (numbered _ _ _ _ _ c.as_str.ensures c.index.ensures c.in-Some.is) in
    omega (arith, within, ap length c.self.view_is)

pub returns-in-Some-clause-ok : goal.returns-in-Some-clause-ok
returns-in-Some-clause-ok c =
    ap (λ (ds : List Document). slice_set ds c.in-Some.i c.args.document) c.self.view_is
    ∙ put_there c.args.document c.args.self.now c.in-Some.i (numbered _ _ _ _ _ c.as_str.ensures c.index.ensures c.in-Some.is)

pub returns-in_ok-push-in-None-clause-ok : goal.returns-in_ok-push-in-None-clause-ok
returns-in_ok-push-in-None-clause-ok c =
    c.in_ok-push-in-None.ensures.items
    ∙ ap (λ (ds : List Document). ds ++ c.args.document ∷ []) c.self.view_is
    ∙ put_behind c.args.document c.args.self.now (numbered _ _ _ _ _ c.as_str.ensures c.index.ensures c.in-None.is)
