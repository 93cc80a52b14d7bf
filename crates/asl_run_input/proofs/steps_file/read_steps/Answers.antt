use Rattle.std.proofs.Common.{rules, ◌+◌}
use Rattle.asl_history.proofs.Steps.{empty}
use Rattle.asl_run_input.specs.StepsFile.{IsStepLine}
use Rattle.asl_run_input.proofs.LinesRead.{begun, read_on, stuck, no_values, whole, ended}
use Rattle.asl_run_input.proofs.steps_file.read_steps.Goals as goal

pub loop-rest-init : goal.loop-rest-init
loop-rest-init c = rw c.new-steps.ensures.items (begun IsStepLine c.args.bytes.now)

pub returns-in_default-clause-only : goal.returns-in_default-clause-only
returns-in_default-clause-only c = λ ss f. absurd (no_values IsStepLine c.args.bytes.now c.loop-rest.steps.items c.loop-rest.rest.now c.split_line.result.0.now c.split_line.result.1.now c.in_ok-step.field-0 c.loop-rest.invariant c.split_line.ensures.lines c.in_default.is c.in_ok-step.ensures.only ss f)

pub returns-in_default-clause-fault : goal.returns-in_default-clause-fault
returns-in_default-clause-fault c = stuck IsStepLine c.args.bytes.now c.loop-rest.steps.items c.loop-rest.rest.now c.split_line.result.0.now c.split_line.result.1.now c.in_ok-step.field-0 (c.len.result + 1) c.loop-rest.invariant c.split_line.ensures.lines c.in_default.is c.in_ok-step.ensures.only (search rules)

pub loop-rest-preserved : goal.loop-rest-preserved
loop-rest-preserved c = rw c.in_ok-push.ensures.items (read_on IsStepLine c.args.bytes.now c.loop-rest.steps.items c.loop-rest.rest.now c.split_line.result.0.now c.split_line.result.1.now c.in-Some.step c.loop-rest.invariant c.split_line.ensures.lines (rw c.in-Some.is at c.in_ok-step.ensures.found) (rw c.in-Some.is at c.in_ok-step.ensures.only))

pub returns-clause-found : goal.returns-clause-found
returns-clause-found c = whole IsStepLine c.args.bytes.now c.loop-rest.steps.items c.loop-rest.rest.now c.loop-rest.invariant (empty c.loop-rest.rest.now c.loop-rest-test.ensures)

pub returns-clause-only : goal.returns-clause-only
returns-clause-only c = ended IsStepLine c.args.bytes.now c.loop-rest.steps.items c.loop-rest.rest.now c.loop-rest.invariant (empty c.loop-rest.rest.now c.loop-rest-test.ensures)
