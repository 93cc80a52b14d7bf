use Rattle.std.proofs.Common.{◌<◌, subst, sym, arith, length, get_or}
use Rattle.std.specs.List.{Contains}
use Rattle.std.proofs.lemmas.List.{length-map}
use Rattle.std.proofs.lemmas.Result.{IfOk-weaker}
use Rattle.asl_run_state.specs.World.{World}
use Rattle.asl_run_state.specs.Bare.{bare}
use Rattle.asl_run_state.proofs.Picks.{over-is, running-is}
use Rattle.asl_exec.specs.Probes.{setup_of, world_of}
use Rattle.asl_explore.specs.declared.met.Node.{Node}
use Rattle.asl_explore.specs.Searches.{IsReached, worlds_of, outcomes_of}
use Rattle.asl_explore.proofs.Growing.{later-same}
use Rattle.asl_explore.proofs.Behind.{behind-next}
use Rattle.asl_explore.proofs.Expanding.{node-at, accepted-is, met-running, met-over, met-unmoved, next-is, stands-there}
use Rattle.asl_explore.proofs.visiting.visit.Goals as goal

pub returns-in_err-enter-clause-later : goal.returns-in_err-enter-clause-later
returns-in_err-enter-clause-later c = later-same (worlds_of c.args.met.now.nodes.items) (outcomes_of c.args.found.now.list.items)

pub returns-then-not-branch-clause-later : goal.returns-then-not-branch-clause-later
returns-then-not-branch-clause-later c = later-same (worlds_of c.args.met.now.nodes.items) (outcomes_of c.args.found.now.list.items)

pub returns-in_err-reply-clause-later : goal.returns-in_err-reply-clause-later
returns-in_err-reply-clause-later c = later-same (worlds_of c.args.met.now.nodes.items) (outcomes_of c.args.found.now.list.items)

pub returns-then-is_some-clause-later : goal.returns-then-is_some-clause-later
returns-then-is_some-clause-later c = later-same (worlds_of c.args.met.now.nodes.items) (outcomes_of c.args.found.now.list.items)

pub returns-then-is_some-clause-met : goal.returns-then-is_some-clause-met
returns-then-is_some-clause-met c t d =
    let ns = c.args.met.now.nodes.items in
    let w : World = c.index-node.result.now.world in
    let lt : c.args.number < length (worlds_of ns) = omega (arith, c.requires.there, length-map ns (λ (n : Node). bare n.world)) in
    met-unmoved (setup_of c.args.probe.now) (setup_of c.enter.new.probe) (worlds_of ns) (outcomes_of c.args.found.now.list.items) c.args.number w (world_of c.enter.new.probe) d c.args.at.place c.args.at.moment _ c.is_some.result
    c.enter.ensures.setup (c.in_ok-enter.ensures.world c.if-not-branch.false) c.in_ok-reply.ensures.reply c.is_some.ensures c.if-is_some.true lt
    (λ e. node-at ns c.args.number c.index-node.result.now e c.requires.there c.index-node.ensures) (c.requires.runs d)

pub returns-in_err-next-clause-later : goal.returns-in_err-next-clause-later
returns-in_err-next-clause-later c = later-same (worlds_of c.args.met.now.nodes.items) (outcomes_of c.args.found.now.list.items)

pub returns-in_default-clause-later : goal.returns-in_default-clause-later
returns-in_default-clause-later c = later-same (worlds_of c.args.met.now.nodes.items) (outcomes_of c.args.found.now.list.items)

pub returns-then-is_running-clause-met : goal.returns-then-is_running-clause-met
returns-then-is_running-clause-met c t d =
    let ns = c.args.met.now.nodes.items in
    let next : World = c.in-Some.next in
    let e = next-is (setup_of c.args.probe.now) (setup_of c.enter.new.probe) (worlds_of ns) c.args.number c.index-node.result.now.world (world_of c.enter.new.probe) (world_of c.reply.new.self) next d c.args.at.place c.args.at.moment
    c.enter.ensures.setup (c.in_ok-enter.ensures.world c.if-not-branch.false) c.in_ok-reply.ensures.world (rw c.world.ensures at (rw c.in-Some.is at c.in_ok-next.ensures)) (node-at ns c.args.number c.index-node.result.now d c.requires.there c.index-node.ensures) in
    met-running (worlds_of c.put.new.self.nodes.items) (outcomes_of c.args.found.now.list.items) _ next e
    (running-is next c.is_running.result c.is_running.ensures c.if-is_running.true) (stands-there (worlds_of c.put.new.self.nodes.items) c.in_ok-_index._index (bare next) c.in_ok-_index.ensures.at)

pub returns-clause-met : goal.returns-clause-met
returns-clause-met c = IfOk-weaker c.conclude.result _ _ (λ b h t d.
    let ns = c.args.met.now.nodes.items in
    let next : World = c.in-Some.next in
    let e = next-is (setup_of c.args.probe.now) (setup_of c.enter.new.probe) (worlds_of ns) c.args.number c.index-node.result.now.world (world_of c.enter.new.probe) (world_of c.reply.new.self) next d c.args.at.place c.args.at.moment
    c.enter.ensures.setup (c.in_ok-enter.ensures.world c.if-not-branch.false) c.in_ok-reply.ensures.world (rw c.world.ensures at (rw c.in-Some.is at c.in_ok-next.ensures)) (node-at ns c.args.number c.index-node.result.now d c.requires.there c.index-node.ensures) in
    met-over (worlds_of ns) (outcomes_of c.conclude.new.found.list.items) _ next e
    (over-is next c.is_running.result c.is_running.ensures c.if-is_running.false)
    (subst (Contains (outcomes_of c.conclude.new.found.list.items)) c.outcome.ensures (h t))) c.conclude.ensures.met

pub returns-then-is_running-clause-reached : goal.returns-then-is_running-clause-reached
returns-then-is_running-clause-reached c o all step-reached =
    let s = setup_of c.args.probe.now in
    let ns = c.args.met.now.nodes.items in
    let next : World = c.in-Some.next in
    let w : World = c.index-node.result.now.world in
    let at = node-at ns c.args.number c.index-node.result.now w c.requires.there c.index-node.ensures in
    let e = next-is s (setup_of c.enter.new.probe) (worlds_of ns) c.args.number w (world_of c.enter.new.probe) (world_of c.reply.new.self) next w c.args.at.place c.args.at.moment
    c.enter.ensures.setup (c.in_ok-enter.ensures.world c.if-not-branch.false) c.in_ok-reply.ensures.world (rw c.world.ensures at (rw c.in-Some.is at c.in_ok-next.ensures)) at in
    let taken = accepted-is s (setup_of c.enter.new.probe) (worlds_of ns) c.args.number w (world_of c.enter.new.probe) w c.args.at.place c.args.at.moment _ c.is_some.result
    c.enter.ensures.setup (c.in_ok-enter.ensures.world c.if-not-branch.false) c.in_ok-reply.ensures.reply c.is_some.ensures c.if-is_some.false at in
    c.in_ok-_index.ensures.reached o s all (subst (λ (x : World). IsReached o s (bare x)) (sym e) (step-reached w taken))

pub put-requires-clause-behind : goal.put-requires-clause-behind
put-requires-clause-behind c d =
    let ns = c.args.met.now.nodes.items in
    let next : World = c.in-Some.next in
    behind-next (setup_of c.args.probe.now) (get_or (worlds_of ns) c.args.number d) next c.args.at.place c.args.at.moment
    (next-is (setup_of c.args.probe.now) (setup_of c.enter.new.probe) (worlds_of ns) c.args.number c.index-node.result.now.world (world_of c.enter.new.probe) (world_of c.reply.new.self) next d c.args.at.place c.args.at.moment
    c.enter.ensures.setup (c.in_ok-enter.ensures.world c.if-not-branch.false) c.in_ok-reply.ensures.world (rw c.world.ensures at (rw c.in-Some.is at c.in_ok-next.ensures)) (node-at ns c.args.number c.index-node.result.now d c.requires.there c.index-node.ensures))
