use Rattle.std.proofs.Common.{◌≡◌, length}
use Rattle.std.proofs.lemmas.Result.{err_from_is_err_and}
use Rattle.asl_rules.proofs.Stretches.{name_read, name_fails, no_name}
use Rattle.asl_rules.proofs.name.name.Goals as goal

pub returns-in_default-clause-run : goal.returns-in_default-clause-run
returns-in_default-clause-run c = λ ts a k is. rw c.syntax.ensures (no_name ts a k c.args.bytes.now c.skip_spaces-rest.result.now is c.skip_spaces-rest.ensures.skips c.in_default.ensures.none)

pub returns-clause-run : goal.returns-clause-run
returns-clause-run c = λ ts a k is.
    let rest = c.skip_spaces-rest.result.now in
    name_read ts a k c.args.bytes.now rest c.in-Some.inside.now c.in_ok-name.name c.in_ok-name.behind.now (length rest) is c.skip_spaces-rest.ensures.skips c.in-Some.ensures.found (let same : length rest ≡ length rest = λ i. length rest in same) c.in_ok-name.ensures.found

pub returns-in_err-name-clause-run : goal.returns-in_err-name-clause-run
returns-in_err-name-clause-run c = λ ts a k is.
    let p = err_from_is_err_and c.from_residual.result c.from_residual.ensures.1 in
    rw (p.1, p.2) (name_fails ts a k c.args.bytes.now c.skip_spaces-rest.result.now c.in-Some.inside.now c.in_err-name.field-0.0 is c.skip_spaces-rest.ensures.skips c.in-Some.ensures.found c.in_err-name.ensures.broken)
