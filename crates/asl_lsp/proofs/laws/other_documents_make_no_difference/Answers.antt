use Rattle.asl_lsp.proofs.Isolation.{all_same}
use Rattle.asl_lsp.proofs.laws.other_documents_make_no_difference.Goals as goal

pub returns : goal.returns
returns c = all_same
