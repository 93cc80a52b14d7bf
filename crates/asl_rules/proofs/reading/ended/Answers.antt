use Rattle.std.proofs.Common.{◌∙◌, ap, sym, List, ℕ, length, Err}
use Rattle.asl_rules.specs.private.Steps.{operator, between, context, run}
use Rattle.asl_rules.proofs.Stretches.{over, ends_none, ends_some}
use Rattle.asl_rules.proofs.reading.ended.Goals as goal

pub returns-in-None-clause-run : goal.returns-in-None-clause-run
returns-in-None-clause-run c = λ ts.
    let o = c.args.operand in
    let k = context c.args.opens c.args.parts c.args.missing in
    rw c.whole.ensures (ap (run ts (between (operator o)) k) c.requires ∙ over ts (between (operator o)) k ∙ ends_none o k c.pop-innermost.result.0 c.pop-innermost.result.1 c.pop-innermost.ensures c.in-None.is)

pub returns-in-Some-clause-run : goal.returns-in-Some-clause-run
returns-in-Some-clause-run c = λ ts.
    let o = c.args.operand in
    let k = context c.args.opens c.args.parts c.args.missing in
    rw c.syntax.ensures (ap (run ts (between (operator o)) k) c.requires ∙ over ts (between (operator o)) k ∙ ends_some o k c.pop-innermost.result.0 c.pop-innermost.result.1 c.in-Some.field-0 c.pop-innermost.ensures c.in-Some.is ∙ ap (λ (x : List ℕ). Err (length x)) (sym c.requires))
