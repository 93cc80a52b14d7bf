use Rattle.std.proofs.Common.{inr, ◌≡◌, subst, sym, true, List}
use Rattle.std.specs.Prelude.{IfOk, IfSome}
use Rattle.asl_run_input.specs.declared.setup.Setup.{Setup}
use Rattle.asl_exec.specs.Probes.{setup_of}
use Rattle.asl_explore.specs.declared.met.Node.{Node}
use Rattle.asl_explore.specs.declared.orders.Orders.{Orders}
use Rattle.asl_explore.specs.declared.orders.Orders.TheVariants.{Prompt}
use Rattle.std.specs.List.{All}
use Rattle.asl_explore.specs.Endless.{CanEnd}
use Rattle.asl_explore.specs.Orders.{IsWhole}
use Rattle.asl_explore.specs.Searches.{IsClosed, IsReached, NoneWaits, Shows, worlds_of, outcomes_of}
use Rattle.asl_explore.specs.private.Searching.{IsSearch}
use Rattle.asl_explore.proofs.Concluding.{shown-every, no-depth}
use Rattle.asl_explore.proofs.Ending.{never-plain}
use Rattle.asl_explore.proofs.Filling.{prompt-tried, waitless-fills}
use Rattle.asl_explore.proofs.Reached.{all-every-reached}
use Rattle.asl_explore.proofs.Waiting.{every-whole}
use Rattle.asl_explore.proofs.search.try_orders.Goals as goal

pub returns-then-not-branch-clause-search : goal.returns-then-not-branch-clause-search
returns-then-not-branch-clause-search g c =
    let s = setup_of c.args.probe.now in
    let x = c.in-Some.prompt in
    let fs = x.found.list.items in
    let ws = worlds_of x.met.nodes.items in
    let os = outcomes_of fs in
    let every = c.is_unlimited.ensures.every c.if-not-is_unlimited.false in
    let limit = c.is_unlimited.ensures.limit c.if-not-is_unlimited.false in
    let h : IsSearch Prompt true c.args.limit s x = rw c.in-Some.is at c.in_ok-prompt.ensures.search in
    let closed : x.complete ≡ true → IsClosed Prompt s ws os = rw c.in-Some.is at c.in_ok-prompt.ensures.closed in
    let none : NoneWaits ws = subst (λ (ns : List Node). NoneWaits (worlds_of ns)) c.deref.ensures.value (c.in_ok-any_waits.ensures c.if-not-branch.true) in
    record {
      shown = subst (λ (o : Orders). All (Shows o s) fs) (sym every) (shown-every s fs h.shown);
      once = h.once;
      reached = subst (λ (o : Orders). All (IsReached o s) ws) (sym every) (all-every-reached s ws h.reached);
      whole = λ t. subst (λ (o : Orders). IsWhole o s os) (sym every) (every-whole s ws os (closed t).begins (closed t).taken none limit);
      expanded = λ plain. absurd (cc);
      plain = λ plain. absurd (cc);
      ending = λ r. absurd (never-plain ((rw c.in-Some.is at c.in_ok-prompt.ensures.reduced) r));
      filling = λ t ends.
          let all : All (CanEnd Prompt s) ws = subst (λ (o : Orders). All (CanEnd o s) ws) (prompt-tried x.tried h.tried) ends in
          waitless-fills c.args.orders s ws os every (closed t).begins (closed t).taken none limit all;
      depth = no-depth x.depth _ _ h.depth;
      cut = h.cut;
      tried = inr every;
    }

pub returns-clause-search : goal.returns-clause-search
returns-clause-search g c = subst (λ (s : Setup). IfOk c.search-3.result (λ o. IfSome o (IsSearch c.args.orders true c.args.limit s))) c.search-2.ensures.setup c.search-3.ensures.search
