use Rattle.std.proofs.Common.{arith, ◌∙◌, Some}
use Rattle.std.proofs.lemmas.List.Elements.{All-pop}
use Rattle.asl_suite_workers.specs.Cases.{IsRun, IsDone}
use Rattle.asl_suite_workers.proofs.Found.{written}
use Rattle.asl_suite_workers.proofs.workers.place.Goals as goal

pub items-preserved : goal.items-preserved
items-preserved g c =
    let gives = IsRun g.G.Gate.began g.G.Gate.ended (g.S.Cases.gives c.args.suite.now) in
    let popped = All-pop (IsDone (g.S.Cases.count c.args.suite.now) gives) c.items.list.items c.pop.new.self.items c.pop.result c.pop.ensures.items c.items.invariant.rest in
    let done = rw c.in-Some.is at popped.1 in
    record {
      rest = popped.0;
      count = c.put_at.ensures.len ∙ c.items.invariant.count;
      found = written gives c.items.found.items c.put_at.new.list.items c.in-Some.done.case (Some c.in-Some.done.outcome) c.put_at.ensures.items (omega (arith, done.case, c.items.invariant.count, c.items.found.ok)) done.outcome c.items.invariant.found;
    }
