use Rattle.std.proofs.Common.{[], sym, subst, arith, get_or}
use Rattle.std.proofs.lemmas.Bool.Decides.{nat_tests}
use Rattle.std.proofs.lemmas.List.{length-map}
use Rattle.asl_run_state.specs.Bare.{bare}
use Rattle.asl_exec.specs.Probes.{setup_of, world_of}
use Rattle.asl_run_input.specs.declared.setup.Setup.{Setup}
use Rattle.asl_explore.specs.declared.orders.Orders.TheVariants.{Prompt}
use Rattle.asl_explore.specs.Settled.{AreSettledFrom}
use Rattle.asl_explore.specs.declared.met.Node.{Node}
use Rattle.asl_explore.specs.Searches.{worlds_of}
use Rattle.asl_explore.proofs.Behind.{behind-next}
use Rattle.asl_explore.proofs.Expanding.{next-is, node-at}
use Rattle.asl_explore.proofs.Growing.{later-same}
use Rattle.asl_explore.proofs.Quieting.{reduced-is}
use Rattle.asl_explore.proofs.Reached.{quiet-put}
use Rattle.asl_explore.proofs.quiet.take_quietly.Goals as goal

pub returns-in_err-try_clone-clause-later : goal.returns-in_err-try_clone-clause-later
returns-in_err-try_clone-clause-later c os = later-same (worlds_of c.args.met.now.nodes.items) os

pub returns-in_err-enter-clause-later : goal.returns-in_err-enter-clause-later
returns-in_err-enter-clause-later c os = later-same (worlds_of c.args.met.now.nodes.items) os

pub returns-then-not-branch-clause-later : goal.returns-then-not-branch-clause-later
returns-then-not-branch-clause-later c os = later-same (worlds_of c.args.met.now.nodes.items) os

pub step_quietly-requires : goal.step_quietly-requires
step_quietly-requires c = subst (λ (s : Setup). AreSettledFrom s c.args.settling.now.from.items) (sym c.enter.ensures.setup) c.requires.settled

pub returns-in_err-step_quietly-clause-later : goal.returns-in_err-step_quietly-clause-later
returns-in_err-step_quietly-clause-later c os = later-same (worlds_of c.args.met.now.nodes.items) os

pub returns-then-not-branch-2-clause-later : goal.returns-then-not-branch-2-clause-later
returns-then-not-branch-2-clause-later c os = later-same (worlds_of c.args.met.now.nodes.items) os

pub returns-in_err-next-clause-later : goal.returns-in_err-next-clause-later
returns-in_err-next-clause-later c os = later-same (worlds_of c.args.met.now.nodes.items) os

pub returns-in_default-clause-later : goal.returns-in_default-clause-later
returns-in_default-clause-later c os = later-same (worlds_of c.args.met.now.nodes.items) os

pub returns-clause-reduced : goal.returns-clause-reduced
returns-clause-reduced c t =
    let ns = c.args.met.now.nodes.items in
    reduced-is (setup_of c.args.probe.now) (setup_of c.enter.new.probe) (worlds_of ns) (worlds_of c.put.new.self.nodes.items) [] c.args.number c.in_ok-index.index c.index-node.result.now.world
    (world_of c.enter.new.probe) (world_of c.step_quietly.new.probe) c.in-Some.next _
    c.enter.ensures.setup (c.in_ok-enter.ensures.world c.if-not-branch.false) (c.put.ensures.later [])
    (omega (arith, c.requires.there, length-map ns (λ (n : Node). bare n.world)))
    (λ e. node-at ns c.args.number c.index-node.result.now e c.requires.there c.index-node.ensures)
    (c.in_ok-step_quietly.ensures.quiet c.if-not-branch-2.false) (c.in_ok-step_quietly.ensures.world c.if-not-branch-2.false)
    (rw c.world.ensures at (rw c.in-Some.is at c.in_ok-next.ensures)) c.in_ok-index.ensures.at (grind (arith, nat_tests, t))

pub returns-clause-reached : goal.returns-clause-reached
returns-clause-reached c all =
    let s = setup_of c.args.probe.now in
    let ns = c.args.met.now.nodes.items in
    c.in_ok-index.ensures.reached Prompt s all
    (quiet-put s (setup_of c.enter.new.probe) (worlds_of ns) c.args.number c.index-node.result.now.world
    (world_of c.enter.new.probe) (world_of c.step_quietly.new.probe) c.in-Some.next _
    c.enter.ensures.setup (c.in_ok-enter.ensures.world c.if-not-branch.false)
    (omega (arith, c.requires.there, length-map ns (λ (n : Node). bare n.world)))
    (λ e. node-at ns c.args.number c.index-node.result.now e c.requires.there c.index-node.ensures)
    (c.in_ok-step_quietly.ensures.quiet c.if-not-branch-2.false) (c.in_ok-step_quietly.ensures.world c.if-not-branch-2.false)
    (rw c.world.ensures at (rw c.in-Some.is at c.in_ok-next.ensures)) all)

pub put-requires-clause-behind : goal.put-requires-clause-behind
put-requires-clause-behind c d =
    let s = setup_of c.args.probe.now in
    let ns = c.args.met.now.nodes.items in
    behind-next s (get_or (worlds_of ns) c.args.number d) c.in-Some.next _ _
    (next-is s (setup_of c.enter.new.probe) (worlds_of ns) c.args.number c.index-node.result.now.world (world_of c.enter.new.probe) (world_of c.step_quietly.new.probe) c.in-Some.next d _ _
    c.enter.ensures.setup (c.in_ok-enter.ensures.world c.if-not-branch.false) (c.in_ok-step_quietly.ensures.world c.if-not-branch-2.false) (rw c.world.ensures at (rw c.in-Some.is at c.in_ok-next.ensures))
    (node-at ns c.args.number c.index-node.result.now d c.requires.there c.index-node.ensures))
