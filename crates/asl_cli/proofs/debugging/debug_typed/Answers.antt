use Rattle.std.proofs.Common.{inl, inr, refl}
use Rattle.asl_cli.proofs.debugging.debug_typed.Goals as goal

pub returns-in-Ok : goal.returns-in-Ok
returns-in-Ok g c =
    let opened = c.in-Ok.ensures.opened in
    inl (opened.0, opened.1, rw opened.2 at c.converse.ensures)

pub returns-in-Err : goal.returns-in-Err
returns-in-Err g c = inr (c.in-Err.fault, c.write.ensures.0, c.in-Err.ensures.refused, c.write.ensures.1, refl, refl, c.write.ensures.2)
