use Rattle.asl_lsp_positions.proofs.Units.{of_text}
use Rattle.asl_lsp_positions.proofs.laws.utf16_widths_count_code_units.Goals as goal

pub returns : goal.returns
returns c = of_text
