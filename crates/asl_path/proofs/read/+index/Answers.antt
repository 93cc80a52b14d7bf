use Rattle.std.proofs.Common.{◌<◌, arith}
use Rattle.asl_path.proofs.Stretch.{digits_next, digits_end}
use Rattle.asl_path.proofs.read.+index.Goals as goal

pub returns-in-Some-clause-run : goal.returns-in-Some-clause-run
returns-in-Some-clause-run t c = λ done. digits_end c.args.count c.args.value c.args.bytes.now c.in-Some.next.now done c.in-Some.ensures.found

pub returns-clause-run : goal.returns-clause-run
returns-clause-run t c = λ done.
    let l : c.args.count < 9 = omega (arith, c.requires.few, c.if-count-eq9.false) in
    let e = digits_next c.args.count c.args.value c.in-Some-first_digit.digit c.args.bytes.now c.in-Some-first_digit.behind.now done l c.in-Some-first_digit.ensures.small c.in-Some-first_digit.ensures.found in
    rw e (c.index.ensures.run done)
