use Rattle.std.proofs.Common.{sym, length}
use Rattle.std.proofs.lemmas.Bool.{ltb-true}
use Rattle.asl_explore.proofs.Finding.{found-there}
use Rattle.asl_explore.proofs.outcomes.is_at.Goals as goal

pub returns-in-Some : goal.returns-in-Some
returns-in-Some c t =
    let fs = c.args.found.now in
    let look = c.in-Some.ensures.lookup in
    found-there fs c.args.number c.in-Some.one.now c.args.outcome.now c.eq.result (ltb-true c.args.number (length fs) (sym look.0)) look.1 c.eq.ensures t
