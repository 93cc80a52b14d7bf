use Rattle.std.proofs.Common.{◌∙◌, ap}
use Rattle.asl_suite_file.specs.Steps.{step_in}
use Rattle.asl_suite_file.proofs.StepsRead.{read_is}
use Rattle.asl_suite_file.proofs.stepping.step_in.Goals as goal

pub returns : goal.returns
returns c = read_is c.in_ok-step.step c.as_bytes.result.now c.in_ok-step.ensures.found c.in_ok-step.ensures.only ∙ ap step_in c.as_bytes.ensures.value
