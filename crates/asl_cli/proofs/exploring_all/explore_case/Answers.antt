use Rattle.std.proofs.Common.{inl, inr, refl}
use Rattle.std.specs.Prelude.{option_map, string_bytes}
use Rattle.asl_cli.proofs.exploring_all.explore_case.Goals as goal

pub returns-in-Ok : goal.returns-in-Ok
returns-in-Ok g c = inl (c.in-Ok.searched.explored, string_bytes c.in-Ok.searched.notes, option_map string_bytes c.in-Ok.searched.witness, c.in-Ok.ensures.found, c.show_case.ensures)

pub returns-in-Err : goal.returns-in-Err
returns-in-Err g c = inr (c.in-Err.refusal, c.write.ensures.0, c.in-Err.ensures.refused, c.write.ensures.1, refl, refl, c.write.ensures.2)
