use Rattle.std.proofs.Common.{◌≡◌, List, subst}
use Rattle.std.specs.Prelude.{IfOk}
use Rattle.asl_trace_data.specs.declared.stage.Stage.{Stage}
use Rattle.asl_def_states.specs.Show.{wait_object}
use Rattle.asl_step.specs.Seen.{seen}
use Rattle.asl_trace_data.proofs.Alike.{passing_alike}
use Rattle.asl_trace_data.proofs.passing.of_wait_over.Goals as goal

pub returns-clause-stages : goal.returns-clause-stages
returns-clause-stages c =
    let same = passing_alike (wait_object c.args.wait.now) c.args.context.now.facts (seen c.args.visit.now) c.in-Some.input.now _ _ _ c.input_path-path.ensures c.output_path-output.ensures c.in-Some.ensures in
    subst (λ (ss : List Stage). IfOk c.passes_on.result (λ r. r.items ≡ ss)) same c.passes_on.ensures.stages
