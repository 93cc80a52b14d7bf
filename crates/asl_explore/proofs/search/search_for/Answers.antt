use Rattle.std.proofs.Common.{rules, []}
use Rattle.std.specs.Prelude.{not}
use Rattle.asl_exec.specs.Probes.{setup_of}
use Rattle.asl_explore.specs.Searches.{outcomes_of}
use Rattle.asl_explore.specs.private.Searching.{IsSearch}
use Rattle.asl_explore.proofs.Concluding.{depth-later}
use Rattle.asl_explore.proofs.search.search_for.Goals as goal

pub returns-clause-search : goal.returns-clause-search
returns-clause-search g c =
    let s = setup_of c.args.probe.now in
    let x = c.in-Some.searched in
    let h : IsSearch c.args.orders (not c.args.calls) c.args.limit s x = rw c.in-Some.is at c.in_ok-searched.ensures.search in
    record {
      shown = search rules;
      once = search rules;
      reached = h.reached;
      whole = search rules;
      expanded = search rules;
      plain = h.plain;
      ending = search rules;
      filling = search rules;
      depth = depth-later c.args.orders s [] [] (outcomes_of x.found.list.items) (outcomes_of c.put_samples.new.found.list.items) x.depth (c.put_samples.ensures.later []) h.depth;
      cut = h.cut;
      tried = h.tried;
    }
