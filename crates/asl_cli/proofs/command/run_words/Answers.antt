use Rattle.std.proofs.Common.{inl}
use Rattle.asl_cli.proofs.command.run_words.Goals as goal

pub returns-in-Ok : goal.returns-in-Ok
returns-in-Ok g c = inl (c.in-Ok.line, c.in-Ok.ensures.ok, c.obey.ensures)
