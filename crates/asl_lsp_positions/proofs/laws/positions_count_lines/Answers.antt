use Rattle.asl_lsp_positions.proofs.Lining.{position_is}
use Rattle.asl_lsp_positions.proofs.laws.positions_count_lines.Goals as goal

pub returns : goal.returns
returns c = position_is
