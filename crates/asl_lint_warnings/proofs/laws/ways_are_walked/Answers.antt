use Rattle.std.specs.Prelude.{length}
use Rattle.asl_lint_warnings.proofs.Joining.{reaches, reached}
use Rattle.asl_lint_warnings.proofs.laws.ways_are_walked.Goals as goal

pub returns : goal.returns
returns c = λ es starts j. (λ h. reaches es starts (length es) j h, λ r. reached es starts j r)
