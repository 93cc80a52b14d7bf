use Rattle.std.proofs.Common.{[], inl, arith, sym, subst, get_or}
use Rattle.std.specs.List.{All}
use Rattle.std.proofs.lemmas.List.{length-map}
use Rattle.std.proofs.lemmas.Result.{IfOk-weaker}
use Rattle.asl_run_state.specs.Bare.{bare}
use Rattle.asl_run_input.specs.declared.setup.Setup.{Setup}
use Rattle.asl_exec.specs.Probes.{setup_of}
use Rattle.asl_explore.specs.declared.met.Node.{Node}
use Rattle.asl_explore.specs.declared.orders.Orders.{Orders}
use Rattle.asl_explore.specs.Searches.{IsReached, IsTakenOn, worlds_of, outcomes_of}
use Rattle.asl_explore.proofs.Expanding.{shown-as}
use Rattle.asl_explore.proofs.Growing.{later-length, later-then}
use Rattle.asl_explore.proofs.search.take_on.Goals as goal

pub expand-requires-in-Prompt : goal.expand-requires-in-Prompt
expand-requires-in-Prompt c =
    let ns = c.args.met.now.nodes.items in
    let ms = c.quietly.new.met.nodes.items in
    omega (arith, c.requires.there, later-length (worlds_of ns) (worlds_of ms) [] [] (c.quietly.ensures.later []), length-map ns (λ (n : Node). bare n.world), length-map ms (λ (n : Node). bare n.world))

pub returns-else-branch-clause-taken : goal.returns-else-branch-clause-taken
returns-else-branch-clause-taken c =
    let ws = worlds_of c.expand-in-Prompt.new.met.nodes.items in
    let os = outcomes_of c.expand-in-Prompt.new.found.list.items in
    IfOk-weaker c.expand-in-Prompt.result _ _
    (λ b h t d. subst (λ (s : Setup). IsTakenOn c.args.orders s ws os c.args.number (get_or ws c.args.number d)) c.quietly.ensures.setup (inl (h t d)))
    c.expand-in-Prompt.ensures.expanded

pub returns-else-branch-clause-later : goal.returns-else-branch-clause-later
returns-else-branch-clause-later c =
    let os = outcomes_of c.args.found.now.list.items in
    later-then (worlds_of c.args.met.now.nodes.items) (worlds_of c.quietly.new.met.nodes.items) (worlds_of c.expand-in-Prompt.new.met.nodes.items) os os (outcomes_of c.expand-in-Prompt.new.found.list.items) (c.quietly.ensures.later os) c.expand-in-Prompt.ensures.later

pub returns-else-branch-clause-shown : goal.returns-else-branch-clause-shown
returns-else-branch-clause-shown c h =
    shown-as c.args.orders (setup_of c.quietly.new.probe) (setup_of c.args.probe.now) c.args.found.now.list.items c.expand-in-Prompt.new.found.list.items c.quietly.ensures.setup c.expand-in-Prompt.ensures.shown h

pub returns-then-branch-clause-reached : goal.returns-then-branch-clause-reached
returns-then-branch-clause-reached c =
    subst (λ (o : Orders). All (IsReached o (setup_of c.args.probe.now)) (worlds_of c.args.met.now.nodes.items) → All (IsReached o (setup_of c.args.probe.now)) (worlds_of c.quietly.new.met.nodes.items)) (sym c.in-Prompt.is) c.in_ok-quietly-in-Prompt.ensures.reached

pub returns-else-branch-clause-reached : goal.returns-else-branch-clause-reached
returns-else-branch-clause-reached c =
    let s = setup_of c.args.probe.now in
    let vs = worlds_of c.quietly.new.met.nodes.items in
    let xs = worlds_of c.expand-in-Prompt.new.met.nodes.items in
    let first = subst (λ (o : Orders). All (IsReached o s) (worlds_of c.args.met.now.nodes.items) → All (IsReached o s) vs) (sym c.in-Prompt.is) c.in_ok-quietly-in-Prompt.ensures.reached in
    IfOk-weaker c.expand-in-Prompt.result _ _
    (λ b h all. subst (λ (z : Setup). All (IsReached c.args.orders z) vs → All (IsReached c.args.orders z) xs) c.quietly.ensures.setup h (first all))
    c.expand-in-Prompt.ensures.reached
