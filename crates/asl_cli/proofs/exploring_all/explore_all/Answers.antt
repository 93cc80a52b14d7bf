use Rattle.std.proofs.Common.{inl, inr, refl}
use Rattle.asl_cli.proofs.exploring_all.explore_all.Goals as goal

pub returns-in-Ok : goal.returns-in-Ok
returns-in-Ok g c = inl (c.as_slice.result.now, c.project_in.new.files, rw c.as_slice.ensures.value c.in-Ok.ensures.read, c.explore_each.ensures)

pub returns-in-Err : goal.returns-in-Err
returns-in-Err g c = inr (c.in-Err.refusal, c.write.ensures.0, c.in-Err.ensures.refused, c.write.ensures.1, refl, refl, c.write.ensures.2)
