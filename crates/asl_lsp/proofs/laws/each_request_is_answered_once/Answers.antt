use Rattle.asl_lsp.proofs.Answering.{all_ids}
use Rattle.asl_lsp.proofs.laws.each_request_is_answered_once.Goals as goal

pub returns : goal.returns
returns c = all_ids
