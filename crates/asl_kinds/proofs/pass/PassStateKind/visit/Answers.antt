use Rattle.std.proofs.Common.{sym}
use Rattle.asl_def_states.specs.Show.{pass_object}
use Rattle.asl_step.specs.Context.{context_of}
use Rattle.asl_step.specs.Seen.{seen}
use Rattle.asl_kinds.specs.Members.{pass_output}
use Rattle.asl_kinds.specs.private.Laws.{pass-lawful, fits_as}
use Rattle.asl_kinds.proofs.pass.PassStateKind.visit.Goals as goal

pub returns-clause-effect : goal.returns-clause-effect
returns-clause-effect c =
    let gives = c.passed.ensures (pass_output (pass_object c.args.self.now) c.in-Some.input.now (context_of c.args.context.now.facts (seen c.args.visit.now))) c.output-given.ensures.given in
    let told = rw c.in_ok-done.ensures at gives in
    let moved = rw (c.target-next.ensures, c.next.ensures.next) at told in
    rw (sym c.in-Some.ensures) moved

pub returns-clause-fits : goal.returns-clause-fits
returns-clause-fits c = fits_as c.passed.result _ (returns-clause-effect c) (pass-lawful (pass_object c.args.self.now) c.args.context.now.facts (seen c.args.visit.now)).fits
