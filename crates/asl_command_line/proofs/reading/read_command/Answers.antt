use Rattle.std.proofs.Common.{inr}
use Rattle.std.proofs.lemmas.Result.{IfErr-weaker, IfOk-weaker}
use Rattle.asl_command_line.proofs.reading.read_command.Goals as goal

pub returns-in-Ok-clause-ok : goal.returns-in-Ok-clause-ok
returns-in-Ok-clause-ok g c = IfOk-weaker c.line_by.result _ _ (λ l h. record {
  taken = c.in-Ok.taken;
  takes = c.in-Ok.ensures.ok.0;
  gives = c.in-Ok.ensures.ok.1;
  asks = h.0;
  lists = h.1;
}) c.line_by.ensures.ok

pub returns-in-Ok-clause-err : goal.returns-in-Ok-clause-err
returns-in-Ok-clause-err g c = IfErr-weaker c.line_by.result _ _ (λ a none. inr (inr (record {
  taken = c.in-Ok.taken;
  gives = c.in-Ok.ensures.ok.1;
  asks = none;
}))) c.line_by.ensures.err
