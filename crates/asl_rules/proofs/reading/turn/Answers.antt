use Rattle.std.proofs.Common.{◌∙◌, ap, sym, subst}
use Rattle.std.proofs.lemmas.Result.{err_from_is_err_and}
use Rattle.asl_rules.specs.private.Steps.{Read, operand, operator}
use Rattle.asl_rules.specs.private.Leads.{Leads}
use Rattle.asl_rules.specs.private.Hears.{wants, told}
use Rattle.asl_rules.proofs.Stretches.{fails_along}
use Rattle.asl_rules.proofs.Hearing.{reader_skips}
use Rattle.asl_rules.proofs.reading.turn.Goals as goal

pub returns-in_err-on-in-Operand-clause-run : goal.returns-in_err-on-in-Operand-clause-run
returns-in_err-on-in-Operand-clause-run c =
    let p = err_from_is_err_and c.from_residual.result c.from_residual.ensures.1 in
    let same = reader_skips c.args.tasks.now c.args.reader operand c.skip_spaces-rest.result.now (ap wants c.in-Operand.is) c.skip_spaces-rest.ensures.skips in
    rw (p.1, p.2) (fails_along c.in_err-on-in-Operand.field-0.0 _ _ same c.in_err-on-in-Operand.ensures.run)

pub returns-in_ok-on-in-Operand-clause-run : goal.returns-in_ok-on-in-Operand-clause-run
returns-in_ok-on-in-Operand-clause-run c = reader_skips c.args.tasks.now c.args.reader operand c.skip_spaces-rest.result.now (ap wants c.in-Operand.is) c.skip_spaces-rest.ensures.skips ∙ c.in_ok-on-in-Operand.ensures.run

pub returns-then-is_empty-clause-run : goal.returns-then-is_empty-clause-run
returns-then-is_empty-clause-run c =
    let ts = c.args.tasks.now in
    let same = reader_skips ts c.args.reader (operator c.in-Operator.operand) c.skip_spaces-rest.result.now (ap wants c.in-Operator.is) c.skip_spaces-rest.ensures.skips in
    subst (λ (x : Read). Leads (told ts) c.ended.result x) (sym same) (c.ended.ensures.run ts)

pub returns-in_err-on-in-Operator-clause-run : goal.returns-in_err-on-in-Operator-clause-run
returns-in_err-on-in-Operator-clause-run c =
    let ts = c.args.tasks.now in
    let p = err_from_is_err_and c.from_residual-in_err-on-in-Operator.result c.from_residual-in_err-on-in-Operator.ensures.1 in
    let same = reader_skips ts c.args.reader (operator c.in-Operator.operand) c.skip_spaces-rest.result.now (ap wants c.in-Operator.is) c.skip_spaces-rest.ensures.skips in
    rw (p.1, p.2) (fails_along c.in_err-on-in-Operator.field-0.0 _ _ same (c.in_err-on-in-Operator.ensures.run ts))

pub returns-in_ok-on-in-Operator-clause-run : goal.returns-in_ok-on-in-Operator-clause-run
returns-in_ok-on-in-Operator-clause-run c =
    let ts = c.args.tasks.now in
    reader_skips ts c.args.reader (operator c.in-Operator.operand) c.skip_spaces-rest.result.now (ap wants c.in-Operator.is) c.skip_spaces-rest.ensures.skips ∙ c.in_ok-on-in-Operator.ensures.run ts
