use Rattle.std.proofs.lemmas.Result.{IfOk-weaker}
use Rattle.asl_exec.specs.Probes.{setup_of}
use Rattle.std.proofs.Common.{List, sym, subst}
use Rattle.std.specs.List.{All}
use Rattle.asl_explore.specs.declared.found.Found.{Found}
use Rattle.asl_explore.specs.declared.met.Node.{Node}
use Rattle.asl_explore.specs.Calls.{AreMetSoFar}
use Rattle.asl_explore.specs.Searches.{IsReached, outcomes_of, worlds_of}
use Rattle.asl_explore.proofs.Tallies.{counted-all}
use Rattle.asl_explore.proofs.search.calls_in.Goals as goal

pub returns-clause-counted : goal.returns-clause-counted
returns-clause-counted c =
    let s = setup_of c.args.probe.now in
    let x = c.args.searched.now in
    IfOk-weaker c.count_calls.result _ _
    (λ k h w t closed. counted-all c.args.orders s c.setup.result.now x.met.nodes.items c.deref.result.now x.found.list.items c.deref-2.result.now k.calls.items c.len-states.result c.deref.ensures.value c.deref-2.ensures.value c.setup.ensures c.len-states.ensures closed (h t))
    c.count_calls.ensures.counted

pub returns-clause-met : goal.returns-clause-met
returns-clause-met c =
    let s = setup_of c.args.probe.now in
    let x = c.args.searched.now in
    IfOk-weaker c.count_calls.result _ _
    (λ k h w all.
    subst (λ (fs : List Found). AreMetSoFar c.args.orders s (outcomes_of fs) k.calls.items) c.deref-2.ensures.value
    (h (subst (λ (ns : List Node). All (IsReached c.args.orders s) (worlds_of ns)) (sym c.deref.ensures.value) all)))
    c.count_calls.ensures.met
