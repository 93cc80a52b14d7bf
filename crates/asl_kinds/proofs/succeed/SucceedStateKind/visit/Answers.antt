use Rattle.std.proofs.Common.{sym}
use Rattle.asl_def_states.specs.Show.{succeed_object}
use Rattle.asl_step.specs.Context.{context_of}
use Rattle.asl_step.specs.Seen.{seen}
use Rattle.asl_kinds.specs.Members.{passed_on}
use Rattle.asl_kinds.specs.private.Laws.{succeed-lawful, fits_as}
use Rattle.asl_kinds.proofs.succeed.SucceedStateKind.visit.Goals as goal

pub returns-clause-effect : goal.returns-clause-effect
returns-clause-effect c =
    let gives = c.passed.ensures (passed_on (succeed_object c.args.self.now) c.in-Some.input.now (context_of c.args.context.now.facts (seen c.args.visit.now))) c.output-given.ensures.given in
    let told = rw c.in_ok-done.ensures at gives in
    rw (sym c.in-Some.ensures) told

pub returns-clause-fits : goal.returns-clause-fits
returns-clause-fits c = fits_as c.passed.result _ (returns-clause-effect c) (succeed-lawful (succeed_object c.args.self.now) c.args.context.now.facts (seen c.args.visit.now)).fits
