use Rattle.std.proofs.Common.{◌≡◌, List, [], subst}
use Rattle.std.specs.Prelude.{IfOk}
use Rattle.asl_trace_data.specs.declared.stage.Stage.{Stage}
use Rattle.asl_def_shared.specs.Member.{completion_object}
use Rattle.asl_def_states.specs.Show.{parallel_object}
use Rattle.asl_step.specs.Seen.{seen}
use Rattle.asl_trace_data.proofs.Alike.{parallel_joins, parallel_forks}
use Rattle.asl_trace_data.proofs.joining.of_parallel.Goals as goal

pub returns-in_default-clause-stages : goal.returns-in_default-clause-stages
returns-in_default-clause-stages c =
    let same = parallel_joins (parallel_object [] c.args.parallel.now) (completion_object c.completion-completion.result.now) c.args.context.now.facts (seen c.args.visit.now) _ (c.completion-completion.ensures []) c.in_default.ensures in
    subst (λ (ss : List Stage). IfOk c.of_join.result (λ r. r.items ≡ ss)) same c.of_join.ensures.stages

pub returns-clause-stages : goal.returns-clause-stages
returns-clause-stages c =
    let same = parallel_forks (parallel_object [] c.args.parallel.now) (completion_object c.completion-completion.result.now) c.args.context.now.facts (seen c.args.visit.now) c.in-Some.input.now _ _ _ (c.input_path-path.ensures []) (c.parameters-parameters.ensures []) (c.completion-completion.ensures []) c.in-Some.ensures in
    subst (λ (ss : List Stage). IfOk c.fork.result (λ r. r.items ≡ ss)) same c.fork.ensures.stages
