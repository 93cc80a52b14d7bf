use Rattle.asl_choice.proofs.Fitted.{fitted}
use Rattle.asl_choice.proofs.pattern.matches.Goals as goal

pub returns-clause-value : goal.returns-clause-value
returns-clause-value c = fitted _ _ _ (rw (c.as_bytes-pattern.ensures.value, c.as_bytes.ensures.value) at c.fits.ensures)
