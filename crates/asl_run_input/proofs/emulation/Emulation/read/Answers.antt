use Rattle.std.proofs.lemmas.Result.{err_from_is_err_and}
use Rattle.asl_run_input.specs.Views.{texts_of}
use Rattle.asl_run_input.proofs.Refusing.{case_refused, input_refused, steps_refused}
use Rattle.asl_run_input.proofs.emulation.Emulation.read.Goals as goal

pub returns-in_err-case-clause-fault : goal.returns-in_err-case-clause-fault
returns-in_err-case-clause-fault c =
    let refused = case_refused (texts_of c.args.texts.now) c.in_ok-machine.machine c.in_ok-file.file c.in_err-case.field-0.0 c.in_ok-machine.ensures.found c.in_ok-file.ensures.found c.in_err-case.ensures.fault in
    let told = err_from_is_err_and c.from_residual-in_err-case.result c.from_residual-in_err-case.ensures.1 in
    rw (told.1, told.2) refused

pub returns-in_err-input-clause-fault : goal.returns-in_err-input-clause-fault
returns-in_err-input-clause-fault c =
    let refused = input_refused (texts_of c.args.texts.now) c.in_ok-machine.machine c.in_ok-file.file c.in_ok-case.case c.in_err-input.field-0.0 c.in_ok-machine.ensures.found c.in_ok-file.ensures.found c.in_ok-case.ensures.found c.in_err-input.ensures.fault in
    let told = err_from_is_err_and c.from_residual-in_err-input.result c.from_residual-in_err-input.ensures.1 in
    rw (told.1, told.2) refused

pub returns-in_err-steps-clause-fault : goal.returns-in_err-steps-clause-fault
returns-in_err-steps-clause-fault c =
    let refused = steps_refused (texts_of c.args.texts.now) c.in_ok-machine.machine c.in_ok-file.file c.in_ok-case.case c.in_ok-input.input c.in_err-steps.field-0.0 c.in_ok-machine.ensures.found c.in_ok-file.ensures.found c.in_ok-case.ensures.found c.in_ok-input.ensures.found c.in_err-steps.ensures.fault in
    let told = err_from_is_err_and c.from_residual-in_err-steps.result c.from_residual-in_err-steps.ensures.1 in
    rw (told.1, told.2) refused
