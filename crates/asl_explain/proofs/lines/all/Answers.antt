use Rattle.std.proofs.Common.{refl}
use Rattle.asl_explain.specs.Codes.{line_codes}
use Rattle.asl_explain.proofs.lines.all.Goals as goal

pub returns : goal.returns
unfolding line_codes
returns c = refl
