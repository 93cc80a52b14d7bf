use Rattle.std.proofs.Common.{take}
use Rattle.asl_session.proofs.Advances.{AreDone}
use Rattle.asl_session.proofs.session.Session.advance.Given as goal

abbrev pub invariant-loop-count : goal.invariant-loop-count
invariant-loop-count l = AreDone l.fn.self l.self (take l.count l.steps)
