use Rattle.std.proofs.Common.{[], codes, refl}
use Rattle.asl_kinds.proofs.parallel.begins.Goals as goal

pub returns-in-Err-Raised-clause-effect : goal.returns-in-Err-Raised-clause-effect
returns-in-Err-Raised-clause-effect c =
    let raised = rw c.in-Err-Raised.field-0-is at c.in-Err-Raised.ensures.given in
    let given = rw (c.input_path-path.ensures [], c.parameters-parameters.ensures []) at raised in
    let told = rw (c.completion.ensures [] (codes "Retry") refl, c.completion.ensures [] (codes "Catch") refl, c.in_ok-done.ensures) at c.raise.ensures in
    rw given told
