use Rattle.std.proofs.Common.{◌≡◌, List, subst}
use Rattle.std.specs.Prelude.{IfOk}
use Rattle.asl_trace_data.specs.declared.stage.Stage.{Stage}
use Rattle.asl_def_shared.specs.Member.{completion_object}
use Rattle.asl_def_states.specs.Show.{task_object}
use Rattle.asl_step.specs.Seen.{seen}
use Rattle.asl_trace_data.proofs.Alike.{task_alike}
use Rattle.asl_trace_data.proofs.answering.of_task.Goals as goal

pub returns-clause-stages : goal.returns-clause-stages
returns-clause-stages c =
    let same = task_alike (task_object c.args.task.now) (completion_object c.completion-completion.result.now) c.args.context.now.facts (seen c.args.visit.now) c.in-Some.input.now _ _ _ _ c.input_path-path.ensures c.parameters-parameters.ensures c.completion-completion.ensures c.in_ok-answer.ensures c.in-Some.ensures in
    subst (λ (ss : List Stage). IfOk c.invocation.result (λ r. r.items ≡ ss)) same c.invocation.ensures.stages
