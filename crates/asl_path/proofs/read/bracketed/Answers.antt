use Rattle.asl_path.proofs.Stretch.{bracket_digit}
use Rattle.asl_path.proofs.read.bracketed.Goals as goal

pub returns-clause-run : goal.returns-clause-run
returns-clause-run c = λ done.
    let e = bracket_digit c.in-Some-first_digit.digit c.args.bytes.now c.in-Some-first_digit.behind.now done c.in-Some-first_digit.ensures.small c.in-Some-first_digit.ensures.found in
    rw e (c.index.ensures.run done)
