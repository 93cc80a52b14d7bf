use Rattle.std.proofs.Common.{codes, refl}
use Rattle.asl_kinds.proofs.task.fails.Goals as goal

pub returns : goal.returns
returns c =
    rw (
      c.completion-completion.ensures (codes "Retry") refl,
      c.completion-completion.ensures (codes "Catch") refl,
      c.in_ok-done.ensures,
      c.in_ok-told.ensures.ok,
      c.in_ok-error_output.ensures,
    ) at c.raise.ensures
