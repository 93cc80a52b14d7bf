use Rattle.std.proofs.Common.{sym, arith}
use Rattle.asl_mock.proofs.Lasting.{met_last, gap_last, past_last}
use Rattle.asl_mock.proofs.ranges.last_alike.Goals as goal

pub returns-in-Ok : goal.returns-in-Ok
returns-in-Ok c = sym (met_last c.args.number c.args.answers.now c.in-Ok.at c.index-answers-at.result c.requires c.in-Ok.ensures.met.within (λ e. c.in-Ok.ensures.met.low e) (λ e. c.in-Ok.ensures.met.high e))

pub returns-then-at-answers : goal.returns-then-at-answers
returns-then-at-answers c = sym (gap_last c.args.number c.args.answers.now c.in-Err.at c.index-answers-at-then-at-answers.result c.requires c.if-at-answers.true (λ k e l. c.in-Err.ensures.free.below k e l) (λ e. c.in-Err.ensures.free.above c.in-Err.at e (omega arith) c.if-at-answers.true))

pub returns-else-at-answers : goal.returns-else-at-answers
returns-else-at-answers c = sym (past_last c.args.number c.args.answers.now c.requires (λ k e l. c.in-Err.ensures.free.below k e (omega (arith, l, c.if-at-answers.false))))
