use Rattle.std.proofs.Common.{[], ◌∙◌, refl, sym, subst, arith}
use Rattle.std.proofs.lemmas.List.{length-map}
use Rattle.asl_run_state.specs.Bare.{bare}
use Rattle.asl_run_input.specs.declared.setup.Setup.{Setup}
use Rattle.asl_explore.specs.Settled.{AreSettledFrom}
use Rattle.asl_explore.specs.declared.met.Node.{Node}
use Rattle.std.specs.List.{All}
use Rattle.asl_explore.specs.declared.orders.Orders.TheVariants.{Prompt}
use Rattle.asl_explore.specs.Searches.{IsReached, worlds_of}
use Rattle.asl_explore.proofs.Growing.{later-same, later-then, later-length}
use Rattle.asl_explore.proofs.quiet.quietly.Goals as goal

pub returns-in_err-turns-clause-later : goal.returns-in_err-turns-clause-later
returns-in_err-turns-clause-later c os = later-same (worlds_of c.args.met.now.nodes.items) os

pub returns-in_default-clause-later : goal.returns-in_default-clause-later
returns-in_default-clause-later c os = later-same (worlds_of c.args.met.now.nodes.items) os

pub loop-index-init : goal.loop-index-init
loop-index-init c = record { later = λ os. later-same (worlds_of c.args.met.now.nodes.items) os; setup = refl; reached = λ all. all }

pub take_quietly-requires-clause-there : goal.take_quietly-requires-clause-there
take_quietly-requires-clause-there c =
    let ns = c.args.met.now.nodes.items in
    let ms = c.loop-index.met.nodes.items in
    omega (arith, c.requires.there, later-length (worlds_of ns) (worlds_of ms) [] [] (c.loop-index.invariant.later []), length-map ns (λ (n : Node). bare n.world), length-map ms (λ (n : Node). bare n.world))

pub take_quietly-requires-clause-settled : goal.take_quietly-requires-clause-settled
take_quietly-requires-clause-settled c = subst (λ (s : Setup). AreSettledFrom s c.args.settling.now.from.items) (sym c.loop-index.invariant.setup) c.requires.settled

pub returns-in_err-take_quietly-clause-later : goal.returns-in_err-take_quietly-clause-later
returns-in_err-take_quietly-clause-later c os = later-then (worlds_of c.args.met.now.nodes.items) (worlds_of c.loop-index.met.nodes.items) (worlds_of c.take_quietly.new.met.nodes.items) os os os (c.loop-index.invariant.later os) (c.take_quietly.ensures.later os)

pub returns-then-branch-clause-later : goal.returns-then-branch-clause-later
returns-then-branch-clause-later c os = later-then (worlds_of c.args.met.now.nodes.items) (worlds_of c.loop-index.met.nodes.items) (worlds_of c.take_quietly.new.met.nodes.items) os os os (c.loop-index.invariant.later os) (c.take_quietly.ensures.later os)

pub loop-index-preserved : goal.loop-index-preserved
loop-index-preserved c = record {
  later = λ os. later-then (worlds_of c.args.met.now.nodes.items) (worlds_of c.loop-index.met.nodes.items) (worlds_of c.take_quietly.new.met.nodes.items) os os os (c.loop-index.invariant.later os) (c.take_quietly.ensures.later os);
  setup = c.take_quietly.ensures.setup ∙ c.loop-index.invariant.setup;
  reached = λ all. subst (λ (s : Setup). All (IsReached Prompt s) (worlds_of c.loop-index.met.nodes.items) → All (IsReached Prompt s) (worlds_of c.take_quietly.new.met.nodes.items)) c.loop-index.invariant.setup c.in_ok-take_quietly.ensures.reached (c.loop-index.invariant.reached all);
}

pub returns-then-branch-clause-reached : goal.returns-then-branch-clause-reached
returns-then-branch-clause-reached c all = subst (λ (s : Setup). All (IsReached Prompt s) (worlds_of c.loop-index.met.nodes.items) → All (IsReached Prompt s) (worlds_of c.take_quietly.new.met.nodes.items)) c.loop-index.invariant.setup c.in_ok-take_quietly.ensures.reached (c.loop-index.invariant.reached all)

pub returns-clause-reached : goal.returns-clause-reached
returns-clause-reached c all = c.loop-index.invariant.reached all
