use Rattle.std.proofs.Common.{sym, ◌∙◌}
use Rattle.std.proofs.lemmas.Result.{IfOk-weaker}
use Rattle.asl_run_branches.proofs.Reading.{children-of}
use Rattle.asl_run_branches.proofs.frame.Frame.child_records.Goals as goal

pub returns : goal.returns
returns c = IfOk-weaker c.records_of.result _ _ (λ v e. e ∙ sym (children-of c.args.self.now c.children.result.now c.children.ensures)) c.records_of.ensures
