use Rattle.std.proofs.Common.{inr}
use Rattle.std.proofs.lemmas.Result.{IfOk-weaker, IfErr-weaker}
use Rattle.asl_cli.specs.Beginnings.{texts_in, without_steps}
use Rattle.asl_cli.proofs.Held.{debug-reason-from}
use Rattle.asl_cli.proofs.debugging.debug_files.Goals as goal

pub returns-in-Ok-clause-text : goal.returns-in-Ok-clause-text
returns-in-Ok-clause-text g c = IfOk-weaker c.debug_from.result _ _ (λ t h. record {
  setup = h.0;
  begins = record {
    texts = texts_in c.in-Ok.beginning;
    begins = c.in-Ok.ensures.begins;
    accepted = h.1;
  };
  bytes = h.2;
  given = c.in-Ok.ensures.kept _ _ h.3;
  is_run = h.4;
}) c.debug_from.ensures.text

pub returns-in-Ok-clause-refused : goal.returns-in-Ok-clause-refused
returns-in-Ok-clause-refused g c = IfErr-weaker c.debug_from.result _ _ (λ r h. inr (
  texts_in c.in-Ok.beginning,
  c.in-Ok.ensures.begins,
  debug-reason-from (g.F.Files.gives c.args.files.now) (g.F.Files.gives c.begin.new.files) (g.F.Files.lacks c.args.files.now) (g.F.Files.lacks c.begin.new.files) c.in-Ok.ensures.kept c.in-Ok.ensures.lacking (without_steps (texts_in c.in-Ok.beginning)) c.args.script.now r h,
)) c.debug_from.ensures.refused
