use Rattle.asl_rules.proofs.Stretches.{sign_goes, sign_halts}
use Rattle.asl_rules.proofs.front.sign.Goals as goal

pub returns-in_default-clause-run : goal.returns-in_default-clause-run
returns-in_default-clause-run c = λ ts w k m j is ends. rw c.syntax.ensures (sign_halts ts w k c.args.byte m j c.args.bytes.now c.skip_spaces-rest.result.now c.skip_spaces-rest.ensures.skips c.in_default.ensures.none is ends)

pub returns-clause-run : goal.returns-clause-run
returns-clause-run c = λ ts w k m j is ends. sign_goes ts w k c.args.byte m j c.args.bytes.now c.skip_spaces-rest.result.now c.in-Some.behind.now c.skip_spaces-rest.ensures.skips c.in-Some.ensures.found is
