use Rattle.std.proofs.Common.{inr, refl}
use Rattle.asl_cli.proofs.mocking.mocks.Goals as goal

pub returns-in-Err : goal.returns-in-Err
returns-in-Err g c = inr (c.in-Err.refusal, c.write.ensures.0, c.in-Err.ensures.refused, c.write.ensures.1, refl, refl, c.write.ensures.2)
