use Rattle.std.proofs.Common.{inl, inr, refl}
use Rattle.std.specs.Prelude.{string_bytes}
use Rattle.asl_host.specs.Outcomes.{status_of}
use Rattle.asl_cli.proofs.command.run.Goals as goal

pub returns-in-Ok : goal.returns-in-Ok
returns-in-Ok g c = inl (string_bytes c.in-Ok.ran.emulated.text, string_bytes c.in-Ok.ran.note, status_of c.in-Ok.ran.emulated.good, (c.in-Ok.ran.emulated.good, c.in-Ok.ensures.emulated, refl), c.show.ensures.noted, c.show.ensures.printed)

pub returns-in-Err : goal.returns-in-Err
returns-in-Err g c = inr (c.in-Err.refusal, c.write.ensures.0, c.in-Err.ensures.refused, c.write.ensures.1, refl, refl, c.write.ensures.2)
