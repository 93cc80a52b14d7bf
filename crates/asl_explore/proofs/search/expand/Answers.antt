use Rattle.std.proofs.Common.{◌<◌, ◌≤◌, ◌≡◌, true, false, sym, ◌∙◌, ap, subst, arith, length}
use Rattle.std.proofs.lemmas.List.{length-map}
use Rattle.asl_run_state.specs.World.{World}
use Rattle.asl_run_state.specs.Bare.{bare, earliest}
use Rattle.asl_exec.specs.Probes.{setup_of}
use Rattle.asl_explore.specs.declared.met.Node.{Node}
use Rattle.asl_explore.specs.Searches.{worlds_of, outcomes_of, IsBound}
use Rattle.asl_explore.proofs.Growing.{later-same, later-then, later-length}
use Rattle.asl_explore.proofs.Reached.{loop-reached}
use Rattle.asl_explore.proofs.Expanding.{node-at, shown-as, runs-still, met-at, met-more, expanded-all}
use Rattle.asl_explore.proofs.search.expand.Goals as goal
use Rattle.asl_explore.proofs.search.expand.Goals.{then-whole, else-whole}

pub returns-in_err-turns-clause-later : goal.returns-in_err-turns-clause-later
returns-in_err-turns-clause-later c = later-same (worlds_of c.args.met.now.nodes.items) (outcomes_of c.args.found.now.list.items)

pub returns-in_default-clause-later : goal.returns-in_default-clause-later
returns-in_default-clause-later c = later-same (worlds_of c.args.met.now.nodes.items) (outcomes_of c.args.found.now.list.items)

pub returns-in_err-bound-clause-later : goal.returns-in_err-bound-clause-later
returns-in_err-bound-clause-later c = later-same (worlds_of c.args.met.now.nodes.items) (outcomes_of c.args.found.now.list.items)

pub loop-index-init : goal.loop-index-init
loop-index-init c = record {
  later = later-same (worlds_of c.args.met.now.nodes.items) (outcomes_of c.args.found.now.list.items);
  setup = c.in_ok-bound.ensures.setup;
  shown = λ h. h;
  once = λ h. h;
  reached = λ all. all;
  met = λ w k d z lt. absurd (omega arith);
}

pub take-requires-clause-there : goal.take-requires-clause-there
take-requires-clause-there c =
    let ns = c.args.met.now.nodes.items in
    let ms = c.loop-index.met.nodes.items in
    omega (arith, c.requires, later-length (worlds_of ns) (worlds_of ms) (outcomes_of c.args.found.now.list.items) (outcomes_of c.loop-index.found.list.items) c.loop-index.invariant.later, length-map ns (λ (n : Node). bare n.world), length-map ms (λ (n : Node). bare n.world))

pub take-requires-clause-runs : goal.take-requires-clause-runs
take-requires-clause-runs c d =
    let ns = c.args.met.now.nodes.items in
    let ms = c.loop-index.met.nodes.items in
    let lt : c.args.number < length (worlds_of ns) = omega (arith, c.requires, length-map ns (λ (n : Node). bare n.world)) in
    runs-still (worlds_of ns) (worlds_of ms) (outcomes_of c.args.found.now.list.items) (outcomes_of c.loop-index.found.list.items) c.args.number d c.index.result.now.world c.loop-index.invariant.later lt
    (node-at ns c.args.number c.index.result.now d c.requires c.index.ensures) (rw c.in-Some.is at c.in_ok-turns.ensures.runs)

pub returns-in_err-is_met-clause-shown : goal.returns-in_err-is_met-clause-shown
returns-in_err-is_met-clause-shown c h = shown-as c.args.orders (setup_of c.loop-index.probe) (setup_of c.args.probe.now) c.loop-index.found.list.items c.take.new.found.list.items c.loop-index.invariant.setup c.take.ensures.shown (c.loop-index.invariant.shown h)

pub returns-in_err-is_met-clause-once : goal.returns-in_err-is_met-clause-once
returns-in_err-is_met-clause-once c h = c.take.ensures.once (c.loop-index.invariant.once h)

pub loop-index-preserved : goal.loop-index-preserved
loop-index-preserved c =
    let s = setup_of c.args.probe.now in
    let ws = worlds_of c.args.met.now.nodes.items in
    let vs = worlds_of c.loop-index.met.nodes.items in
    let xs = worlds_of c.take.new.met.nodes.items in
    let os = outcomes_of c.args.found.now.list.items in
    let us = outcomes_of c.loop-index.found.list.items in
    let ys = outcomes_of c.take.new.found.list.items in
    let i = c.loop-index.index in
    let turns = c.in-Some.turns.items in
    let inv = c.loop-index.invariant in
    let lt : c.args.number < length ws = omega (arith, c.requires, length-map c.args.met.now.nodes.items (λ (n : Node). bare n.world)) in
    let li : i < length turns = omega (arith, c.in-Some.turns.ok.0, c.loop-index-test.true, c.len-index-end.ensures) in
    record {
      later = later-then ws vs xs os us ys inv.later c.take.ensures.later;
      setup = c.take.ensures.setup ∙ inv.setup;
      shown = λ h. shown-as c.args.orders (setup_of c.loop-index.probe) s c.loop-index.found.list.items c.take.new.found.list.items inv.setup c.take.ensures.shown (inv.shown h);
      once = λ h. c.take.ensures.once (inv.once h);
      reached = λ all.
          let w : World = c.index.result.now.world in
          let v : World = c.index-2.result.now.world in
          let at = λ (d : World). node-at c.args.met.now.nodes.items c.args.number c.index.result.now d c.requires c.index.ensures in
          let same : bare v ≡ bare w = sym (node-at c.args.met.now.nodes.items c.args.number c.index-2.result.now w c.requires c.index-2.ensures) ∙ at w in
          let et = rw c.in-Some.is at c.in_ok-turns.ensures.turns in
          loop-reached c.args.orders s (setup_of c.loop-index.probe) ws vs xs os us c.args.number w v c.in_ok-bound.bound turns i c.index-turn.result.now inv.setup inv.later lt at li c.index-turn.ensures et same (c.is_bounded.ensures c.if-not-is_bounded.false)
          (c.in_ok-bound.ensures.least (c.deref.ensures.value ∙ et ∙ sym (ap (λ (u : World). earliest u.last u.branches) same))) all (inv.reached all) (c.in_ok-is_met.ensures.reached c.args.orders);
      met = λ w.
          let both : (c.loop-index.whole ≡ true) × (c.in_ok-is_met.is_met ≡ true) = elim c.if-whole.branch [ then-whole b ↦ (b.if-whole.true, sym b.whole-is ∙ w) | else-whole b ↦ let e : true ≡ false = sym w ∙ b.whole-is ∙ b.if-whole.false in absurd (cc) ] in
          met-more s ws vs xs us ys c.args.number c.in_ok-bound.bound turns i c.take.ensures.later (inv.met both.0)
          (met-at s (setup_of c.loop-index.probe) ws vs xs os us ys c.args.number c.in_ok-bound.bound turns i c.index-turn.result.now inv.setup inv.later lt li c.index-turn.ensures (c.in_ok-is_met.ensures.met both.1));
    }

pub returns-clause-expanded : goal.returns-clause-expanded
returns-clause-expanded c t =
    let s = setup_of c.args.probe.now in
    let ns = c.args.met.now.nodes.items in
    let ms = c.loop-index.met.nodes.items in
    let os = outcomes_of c.args.found.now.list.items in
    let us = outcomes_of c.loop-index.found.list.items in
    let turns = c.in-Some.turns.items in
    let inv = c.loop-index.invariant in
    let lt : c.args.number < length (worlds_of ns) = omega (arith, c.requires, length-map ns (λ (n : Node). bare n.world)) in
    let more = later-length (worlds_of ns) (worlds_of ms) os us inv.later in
    let le : length turns ≤ c.loop-index.index = omega (arith, c.in-Some.turns.ok.0, c.loop-index-test.false, c.len-index-end.ensures) in
    let w : World = c.index.result.now.world in
    let same : bare c.index-2.result.now.world ≡ bare w = sym (node-at ns c.args.number c.index-2.result.now w c.requires c.index-2.ensures) ∙ node-at ns c.args.number c.index.result.now w c.requires c.index.ensures in
    expanded-all c.args.orders s (worlds_of ns) (worlds_of ms) os us c.args.number c.index.result.now.world c.in_ok-bound.bound turns c.loop-index.index inv.later lt (omega (arith, lt, more)) (λ d. node-at ns c.args.number c.index.result.now d c.requires c.index.ensures)
    (rw c.in-Some.is at c.in_ok-turns.ensures.runs) (rw c.in-Some.is at c.in_ok-turns.ensures.root) (rw c.in-Some.is at c.in_ok-turns.ensures.turns) le (subst (λ (w : World). IsBound c.args.orders s w c.in_ok-bound.bound) same c.in_ok-bound.ensures.bound) (inv.met t)

pub returns-then-not-is_bounded-clause-later : goal.returns-then-not-is_bounded-clause-later
returns-then-not-is_bounded-clause-later c = later-same (worlds_of c.args.met.now.nodes.items) (outcomes_of c.args.found.now.list.items)

pub returns-clause-reached : goal.returns-clause-reached
returns-clause-reached c all = c.loop-index.invariant.reached all
