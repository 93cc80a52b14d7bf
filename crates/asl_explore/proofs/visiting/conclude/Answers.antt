use Rattle.asl_explore.specs.Searches.{outcomes_of}
use Rattle.asl_explore.proofs.Growing.{later-same}
use Rattle.asl_explore.proofs.visiting.conclude.Goals as goal

pub returns-then-branch-clause-later : goal.returns-then-branch-clause-later
returns-then-branch-clause-later c ws = later-same ws (outcomes_of c.args.found.now.list.items)

pub returns-in_err-steps-clause-later : goal.returns-in_err-steps-clause-later
returns-in_err-steps-clause-later c ws = later-same ws (outcomes_of c.args.found.now.list.items)

pub put_found-requires-clause-new : goal.put_found-requires-clause-new
put_found-requires-clause-new c = c.in_ok-has.ensures.new c.if-branch.false

pub returns-in_err-has-clause-later : goal.returns-in_err-has-clause-later
returns-in_err-has-clause-later c ws = later-same ws (outcomes_of c.args.found.now.list.items)
