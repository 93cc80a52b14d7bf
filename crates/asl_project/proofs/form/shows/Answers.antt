use Rattle.std.proofs.Common.{◌∙◌, ap, sym, nat_lt}
use Rattle.asl_project.specs.Form.{count_of}
use Rattle.asl_project.proofs.Keys.{count_seen}
use Rattle.asl_project.proofs.form.shows.Goals as goal

pub returns-in-Workflow : goal.returns-in-Workflow
returns-in-Workflow c =
    rw c.in-Workflow.is (ap (nat_lt c.in-Workflow.number) (sym (count_seen c.workflows.result.now) ∙ ap count_of c.workflows.ensures))
