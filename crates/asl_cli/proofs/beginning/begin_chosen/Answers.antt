use Rattle.std.proofs.Common.{inr}
use Rattle.std.proofs.lemmas.Result.{IfOk-weaker, IfErr-weaker}
use Rattle.asl_cli.specs.Beginnings.{texts_in}
use Rattle.asl_cli.proofs.Held.{setup-before, unchosen-before}
use Rattle.asl_cli.proofs.beginning.begin_chosen.Goals as goal

pub returns-in-Ok-clause-given : goal.returns-in-Ok-clause-given
returns-in-Ok-clause-given g c = IfOk-weaker c.begin_in.result _ _ (λ b h. record {
  workflows = c.in-Ok.project.workflows.items;
  is_project = c.in-Ok.ensures.read;
  setup = h.0;
  is_setup = rw c.as_slice.ensures.value at h.1;
  given = setup-before (g.F.Files.gives c.args.files.now) (g.F.Files.gives c.project_in.new.files) (g.F.Files.lacks c.args.files.now) (g.F.Files.lacks c.project_in.new.files) c.in-Ok.ensures.kept c.in-Ok.ensures.lacking h.0 (texts_in b) h.2;
}) c.begin_in.ensures.given

pub returns-in-Ok-clause-refused : goal.returns-in-Ok-clause-refused
returns-in-Ok-clause-refused g c = IfErr-weaker c.begin_in.result _ _ (λ r h. inr (
  c.in-Ok.project.workflows.items,
  c.in-Ok.ensures.read,
  unchosen-before (g.F.Files.gives c.args.files.now) (g.F.Files.gives c.project_in.new.files) (g.F.Files.lacks c.args.files.now) (g.F.Files.lacks c.project_in.new.files) c.in-Ok.ensures.kept c.in-Ok.ensures.lacking c.args.words.now c.in-Ok.project.workflows.items r (rw c.as_slice.ensures.value at h),
)) c.begin_in.ensures.refused
