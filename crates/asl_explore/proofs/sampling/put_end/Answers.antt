use Rattle.asl_explore.specs.Searches.{outcomes_of}
use Rattle.asl_explore.proofs.Growing.{later-same}
use Rattle.asl_explore.proofs.sampling.put_end.Goals as goal

pub returns-in_err-outcome-clause-later : goal.returns-in_err-outcome-clause-later
returns-in_err-outcome-clause-later c ws = later-same ws (outcomes_of c.args.found.now.list.items)

pub returns-in_default-clause-later : goal.returns-in_default-clause-later
returns-in_default-clause-later c ws = later-same ws (outcomes_of c.args.found.now.list.items)

pub returns-then-branch-clause-later : goal.returns-then-branch-clause-later
returns-then-branch-clause-later c ws = later-same ws (outcomes_of c.args.found.now.list.items)

pub returns-in_err-has-clause-later : goal.returns-in_err-has-clause-later
returns-in_err-has-clause-later c ws = later-same ws (outcomes_of c.args.found.now.list.items)
