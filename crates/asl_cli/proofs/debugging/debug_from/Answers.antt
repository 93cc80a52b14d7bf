use Rattle.std.proofs.Common.{inl, inr}
use Rattle.std.proofs.lemmas.Result.{IfOk-weaker, IfErr-weaker}
use Rattle.asl_cli.proofs.debugging.debug_from.Goals as goal

pub returns-in-Ok-clause-text : goal.returns-in-Ok-clause-text
returns-in-Ok-clause-text g c = IfOk-weaker c.debug_with.result _ _ (λ t h. (h.0, h.1, c.in-Ok.commands.items, c.in-Ok.ensures.given, rw c.as_slice.ensures.value at h.2)) c.debug_with.ensures.text

pub returns-in-Ok-clause-refused : goal.returns-in-Ok-clause-refused
returns-in-Ok-clause-refused g c = IfErr-weaker c.debug_with.result _ _ (λ r h. elim h [
  | inl texts ↦ inr (inl texts)
  | inr bad ↦ inr (inr (bad.0, c.in-Ok.commands.items, c.in-Ok.ensures.given, rw c.as_slice.ensures.value at bad.1))
]) c.debug_with.ensures.refused
