use Rattle.std.proofs.Common.{List, subst, sym}
use Rattle.asl_run_state.specs.declared.outcome.Outcome.TheVariants.{TimedOut}
use Rattle.asl_explore.specs.declared.found.Found.{Found}
use Rattle.asl_explore.specs.Searches.{outcomes_of, IsLater}
use Rattle.asl_explore.proofs.Growing.{later-same}
use Rattle.asl_explore.proofs.Finding.{later-found, once-more}
use Rattle.asl_explore.proofs.time_over.put_time_over.Goals as goal

pub returns-in_default-clause-later : goal.returns-in_default-clause-later
returns-in_default-clause-later c ws = later-same ws (outcomes_of c.args.found.now.list.items)

pub returns-then-branch-clause-later : goal.returns-then-branch-clause-later
returns-then-branch-clause-later c ws = later-same ws (outcomes_of c.args.found.now.list.items)

pub returns-in_err-late-clause-later : goal.returns-in_err-late-clause-later
returns-in_err-late-clause-later c ws = later-same ws (outcomes_of c.args.found.now.list.items)

pub returns-in_default-2-clause-later : goal.returns-in_default-2-clause-later
returns-in_default-2-clause-later c ws = later-same ws (outcomes_of c.args.found.now.list.items)

pub returns-in_err-push-clause-later : goal.returns-in_err-push-clause-later
returns-in_err-push-clause-later c ws = subst (λ (fs : List Found). IsLater ws (outcomes_of c.args.found.now.list.items) ws (outcomes_of fs)) (sym c.in_err-push.ensures.err) (later-same ws (outcomes_of c.args.found.now.list.items))

pub returns-clause-later : goal.returns-clause-later
returns-clause-later c ws = later-found ws c.args.found.now.list.items c.push.new.self.list.items c.in-Some-2.late c.in_ok-push.ensures.put

pub returns-clause-once : goal.returns-clause-once
returns-clause-once c = once-more c.args.found.now.list.items c.push.new.self.list.items c.in-Some-2.late TimedOut c.in_ok-push.ensures.put (rw c.in-Some-2.is at c.in_ok-late.ensures.outcome) (c.in_ok-has.ensures.new c.if-branch.false)

pub returns-in_err-has-clause-later : goal.returns-in_err-has-clause-later
returns-in_err-has-clause-later c ws = later-same ws (outcomes_of c.args.found.now.list.items)
