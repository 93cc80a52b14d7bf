use Rattle.std.proofs.Common.{sym}
use Rattle.asl_def_states.specs.Show.{wait_object}
use Rattle.asl_step.specs.Seen.{seen}
use Rattle.asl_trace_data.proofs.Failing.{waited}
use Rattle.asl_trace_data.proofs.passing.add_waiting.Goals as goal

pub returns-clause-stages : goal.returns-clause-stages
returns-clause-stages c =
    let raised = rw c.add_taken.ensures.facts at c.in_ok-error.ensures.error in
    let told = rw (c.in_ok-_value.ensures.stages, c.in_ok-add_value.ensures, c.in_ok-try_clone.ensures, c.input_path-path.ensures, raised) at c.add_error.ensures in
    let given = rw (c.in-Some.is, c.input_path-path.ensures) at c.in_ok-_value.ensures.value in
    rw (sym (waited (wait_object c.args.wait.now) c.args.context.now.facts (seen c.args.visit.now) c.args.input.now c.in-Some._value c.args.out.now.items c.requires given)) told
