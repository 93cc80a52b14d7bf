use Rattle.std.proofs.Common.{inr}
use Rattle.std.proofs.lemmas.Result.{IfOk-weaker, IfErr-weaker}
use Rattle.asl_cli.specs.Beginnings.{texts_in}
use Rattle.asl_cli.specs.Running.{steps_name}
use Rattle.asl_cli.proofs.Held.{given-from, reason-from}
use Rattle.asl_cli.proofs.command.emulate_files.Goals as goal

pub returns-in-Ok-clause-emulated : goal.returns-in-Ok-clause-emulated
returns-in-Ok-clause-emulated g c = IfOk-weaker c.emulate_from.result _ _ (λ r h. (
  texts_in c.in-Ok.beginning,
  c.in-Ok.ensures.begins,
  (
    h.0,
    given-from (g.F.Files.gives c.args.files.now) (g.F.Files.gives c.begin.new.files) (g.F.Files.lacks c.args.files.now) (g.F.Files.lacks c.begin.new.files) c.in-Ok.ensures.kept c.in-Ok.ensures.lacking (steps_name c.args.words.now) h.0 h.1,
    h.2,
  ),
)) c.emulate_from.ensures.emulated

pub returns-in-Ok-clause-refused : goal.returns-in-Ok-clause-refused
returns-in-Ok-clause-refused g c = IfErr-weaker c.emulate_from.result _ _ (λ r h. inr (
  texts_in c.in-Ok.beginning,
  c.in-Ok.ensures.begins,
  reason-from (g.F.Files.gives c.args.files.now) (g.F.Files.gives c.begin.new.files) (g.F.Files.lacks c.args.files.now) (g.F.Files.lacks c.begin.new.files) c.in-Ok.ensures.kept c.in-Ok.ensures.lacking (texts_in c.in-Ok.beginning) (steps_name c.args.words.now) r h,
)) c.emulate_from.ensures.refused
