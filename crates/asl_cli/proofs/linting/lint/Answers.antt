use Rattle.std.proofs.Common.{inl, inr, refl}
use Rattle.asl_cli.proofs.linting.lint.Goals as goal

pub returns-in-Ok : goal.returns-in-Ok
returns-in-Ok g c = inl (
  c.manner_of-manner.result,
  rw c.as_slice-names.ensures.value at c.manner_of-manner.ensures,
  rw (c.deref.ensures.value, c.in-Ok.ensures, c.as_slice-names.ensures.value, c.as_slice.ensures.value) at c.lint_but.ensures,
)

pub returns-in-Err : goal.returns-in-Err
returns-in-Err g c = inr (_, c.write.ensures.0, refl, c.write.ensures.1, refl, refl, c.write.ensures.2)
