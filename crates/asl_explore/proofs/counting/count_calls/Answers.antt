use Rattle.std.proofs.Common.{◌≡◌, ◌∙◌, true, false, sym, subst, arith}
use Rattle.asl_run_state.specs.Bare.{bare}
use Rattle.asl_run_input.specs.declared.setup.Setup.{Setup}
use Rattle.asl_exec.specs.Probes.{setup_of}
use Rattle.std.proofs.lemmas.List.{length-map}
use Rattle.asl_explore.specs.declared.met.Node.{Node}
use Rattle.asl_explore.specs.Searches.{IsReached, outcomes_of}
use Rattle.asl_explore.specs.Calls.{AreEndsCounted, AreMetSoFar}
use Rattle.asl_explore.proofs.Expanding.{node-at}
use Rattle.asl_explore.proofs.Tallies.{worlds-more}
use Rattle.asl_explore.proofs.counting.count_calls.Goals as goal
use Rattle.asl_explore.proofs.counting.count_calls.Goals.{then-whole, else-whole}

pub loop-node-preserved : goal.loop-node-preserved
loop-node-preserved c =
    let s = setup_of c.args.probe.now in
    let os = outcomes_of c.args.found.now in
    let cs = c.loop-node.calls.items in
    let ds = c.count_ends.new.calls.items in
    let node = c.node-item.result in
    let inv = c.loop-node.invariant in
    record {
      setup = c.count_ends.ensures.setup ∙ inv.setup;
      met = λ all.
          let here = subst (IsReached c.args.orders s) (node-at c.args.nodes.now c.loop-node.node-index node node.world c.loop-node-test.true c.node-item.is) (all c.loop-node.node-index node.world (omega (arith, c.loop-node-test.true, length-map c.args.nodes.now (λ (n : Node). bare n.world)))) in
          subst (λ (z : Setup). IsReached c.args.orders z (bare node.world) → AreMetSoFar c.args.orders z os cs → AreMetSoFar c.args.orders z os ds) inv.setup c.in_ok-is_counted.ensures.met here (inv.met all);
      counted = λ t.
          let both : (c.loop-node.whole ≡ true) × (c.in_ok-is_counted.is_counted ≡ true) = elim c.if-whole.branch [ then-whole b ↦ (b.if-whole.true, sym b.whole-is ∙ t) | else-whole b ↦ let e : true ≡ false = sym t ∙ b.whole-is ∙ b.if-whole.false in absurd (cc) ] in
          worlds-more c.args.orders s c.args.states os cs ds c.args.nodes.now c.loop-node.node-index node c.in_ok-is_counted.ensures.keeps (inv.counted both.0) c.loop-node-test.true c.node-item.is
          (subst (λ (z : Setup). AreEndsCounted c.args.orders z c.args.states os ds (bare node.world)) inv.setup (c.in_ok-is_counted.ensures.counted both.1));
    }

pub returns-clause-met : goal.returns-clause-met
returns-clause-met c = c.loop-node.invariant.met
