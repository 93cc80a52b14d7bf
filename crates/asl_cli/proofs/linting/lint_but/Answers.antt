use Rattle.std.proofs.Common.{inl, inr, refl}
use Rattle.std.specs.Prelude.{string_bytes}
use Rattle.asl_host.specs.Outcomes.{status_of}
use Rattle.asl_cli.proofs.linting.lint_but.Goals as goal

pub returns-in-Ok : goal.returns-in-Ok
returns-in-Ok g c = inl (string_bytes c.in-Ok.linted.text, status_of c.in-Ok.linted.good, (c.in-Ok.linted, c.in-Ok.ensures.linted, refl, refl), refl, c.print_linted.ensures)

pub returns-in-Err : goal.returns-in-Err
returns-in-Err g c = inr (c.in-Err.refusal, c.write.ensures.0, c.in-Err.ensures.unread, c.write.ensures.1, refl, refl, c.write.ensures.2)
