use Rattle.std.proofs.Common.{◌≡◌, ◌++◌, ◌∷◌, [], ◌∙◌, true, false, sym, subst, take, List}
use Rattle.asl_run_state.specs.Bare.{bare}
use Rattle.asl_run_state.specs.World.{World}
use Rattle.asl_run_input.specs.declared.setup.Setup.{Setup}
use Rattle.asl_exec.specs.Probes.{setup_of}
use Rattle.asl_explore.specs.Searches.{worlds_of}
use Rattle.asl_explore.specs.private.Seeing.{AreSeen}
use Rattle.asl_explore.proofs.Noted.{worlds-more}
use Rattle.asl_explore.proofs.sights.sights_in.Goals as goal
use Rattle.asl_explore.proofs.sights.sights_in.Goals.{then-whole, else-whole}

pub loop-node-preserved : goal.loop-node-preserved
loop-node-preserved c =
    let s = setup_of c.args.probe.now in
    let ns = c.args.nodes.now in
    let i = c.loop-node.node-index in
    let node = c.node-item.result in
    let ws = worlds_of (take i ns) in
    let inv = c.loop-node.invariant in
    record {
      setup = c.see.ensures.setup ∙ inv.setup;
      seen = λ t.
          let both : (c.loop-node.whole ≡ true) × (c.in_ok-is_seen.is_seen ≡ true) = elim c.if-whole.branch [ then-whole b ↦ (b.if-whole.true, sym b.whole-is ∙ t) | else-whole b ↦ let e : true ≡ false = sym t ∙ b.whole-is ∙ b.if-whole.false in absurd (cc) ] in
          subst (λ (vs : List World). AreSeen c.args.orders s vs c.see.new.sights.items) (sym (worlds-more ns i node c.loop-node-test.true c.node-item.is))
          (subst (λ (z : Setup). AreSeen c.args.orders z ws c.loop-node.sights.items → AreSeen c.args.orders z (ws ++ bare node.world ∷ []) c.see.new.sights.items) inv.setup (c.in_ok-is_seen.ensures.seen ws both.1) (inv.seen both.0));
    }
