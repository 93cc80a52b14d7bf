use Rattle.std.proofs.Common.{inr}
use Rattle.asl_cli.proofs.suites.test_part.Goals as goal

pub returns-in-Ok-refused_part : goal.returns-in-Ok-refused_part
returns-in-Ok-refused_part g c =
    let rest = c.in-Ok-refused_part.ensures.rest in
    inr (c.in-Err.refusal, c.in-Err.ensures.refused, c.in-Ok-refused_part.ensures.told, rest.0, rest.1, rest.2, rest.3)
