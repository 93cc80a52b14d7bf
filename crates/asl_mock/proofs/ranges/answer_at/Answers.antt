use Rattle.std.proofs.Common.{sym}
use Rattle.asl_mock.proofs.Spots.{first_there, gap_with_none}
use Rattle.asl_mock.proofs.ranges.answer_at.Goals as goal

pub returns-in-Ok : goal.returns-in-Ok
returns-in-Ok c = sym (first_there c.args.number c.args.answers.now c.in-Ok.at c.index-answers-at.result c.requires c.in-Ok.ensures.met.within (λ e. c.in-Ok.ensures.met.low e) (λ e. c.in-Ok.ensures.met.high e))

pub returns-in-Err : goal.returns-in-Err
returns-in-Err c = sym (gap_with_none c.args.number c.args.answers.now c.in-Err.field-0 c.in-Err.ensures.free)
