use Rattle.asl_explore.proofs.Bare.{step-bare}
use Rattle.asl_explore.proofs.Reduced.{taken-whole}
use Rattle.asl_explore.proofs.Waiting.{every-whole}
use Rattle.asl_explore.proofs.Driven.{driven-listed}
use Rattle.asl_explore.proofs.AnyMoment.{timeless-whole}
use Rattle.asl_explore.proofs.laws.searches_leave_out_nothing.Goals as goal

pub returns-clause-history : goal.returns-clause-history
returns-clause-history c = step-bare

pub returns-clause-whole : goal.returns-clause-whole
returns-clause-whole c o s ws os closed = taken-whole o s ws os closed.begins closed.taken

pub returns-clause-waitless : goal.returns-clause-waitless
returns-clause-waitless c s ws os closed none limit = every-whole s ws os closed.begins closed.taken none limit

pub returns-clause-driven : goal.returns-clause-driven
returns-clause-driven c = driven-listed

pub returns-clause-timeless : goal.returns-clause-timeless
returns-clause-timeless c = timeless-whole
