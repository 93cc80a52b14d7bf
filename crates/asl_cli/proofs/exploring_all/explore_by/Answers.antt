use Rattle.std.proofs.Common.{inl}
use Rattle.asl_cli.proofs.exploring_all.explore_by.Goals as goal

pub returns-in-Ok : goal.returns-in-Ok
returns-in-Ok g c = inl (c.in-Ok.chosen.items, c.chosen_of.new.files, c.in-Ok.ensures, rw (c.deref.ensures.value) at c.explore_cases.ensures)
