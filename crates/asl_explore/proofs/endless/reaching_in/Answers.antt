use Rattle.std.proofs.Common.{◌∙◌, ◌-◌, subst}
use Rattle.asl_run_input.specs.declared.setup.Setup.{Setup}
use Rattle.asl_exec.specs.Probes.{setup_of}
use Rattle.asl_explore.specs.Searches.{worlds_of}
use Rattle.asl_explore.specs.private.Reaching.{AreReaching, Reaches}
use Rattle.asl_explore.proofs.endless.reaching_in.Goals as goal
use Rattle.asl_explore.proofs.endless.reaching_in.Goals.{then-branch+in_ok-note, else-branch}

pub loop-index-preserved : goal.loop-index-preserved
loop-index-preserved c =
    let o = c.args.orders in
    let s = setup_of c.args.probe.now in
    let ws = worlds_of c.args.met.now.nodes.items in
    let a = c.loop-index.reaching in
    let b = c.look.new.reaching in
    let inv = c.loop-index.invariant in
    let kept : AreReaching o s ws b.known.items b.links.items = subst (λ (z : Setup). AreReaching o z ws a.known.items a.links.items → AreReaching o z ws b.known.items b.links.items) inv.setup c.look.ensures.kept inv.reaching in
    record {
      setup = c.look.ensures.setup ∙ inv.setup;
      reaching = elim c.if-branch.branch [
        | then-branch+in_ok-note w ↦ rw w.reaching-is (w.note.ensures o s ws kept (subst (λ (z : Setup). AreReaching o z ws a.known.items a.links.items → Reaches o z ws (c.len-worlds.result - 1 - c.loop-index.index)) inv.setup (c.in_ok-look.ensures.ends w.if-branch.true) inv.reaching))
        | else-branch w ↦ rw w.reaching-is kept
      ];
    }
