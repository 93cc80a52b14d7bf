use Rattle.std.proofs.Common.{◌≡◌, List, subst}
use Rattle.std.specs.Prelude.{IfOk}
use Rattle.asl_trace_data.specs.declared.stage.Stage.{Stage}
use Rattle.asl_def_states.specs.Show.{pass_object}
use Rattle.asl_step.specs.Seen.{seen}
use Rattle.asl_trace_data.proofs.Alike.{pass_alike}
use Rattle.asl_trace_data.proofs.passing.of_pass.Goals as goal

pub returns-clause-stages : goal.returns-clause-stages
returns-clause-stages c =
    let same = pass_alike (pass_object c.args.pass.now) c.args.context.now.facts (seen c.args.visit.now) c.in-Some.input.now _ _ _ _ _ _ c.input_path.ensures c.parameters.ensures c.result.ensures c.result_path.ensures c.output_path.ensures c.in-Some.ensures in
    subst (λ (ss : List Stage). IfOk c.passes.result (λ r. r.items ≡ ss)) same c.passes.ensures.stages
