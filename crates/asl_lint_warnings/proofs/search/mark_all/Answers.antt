use Rattle.std.proofs.Common.{take, sym, subst, List, ℕ}
use Rattle.std.proofs.lemmas.List.{take_more}
use Rattle.asl_lint_warnings.specs.private.Growths.{Grown}
use Rattle.asl_lint_warnings.proofs.Growing.{more}
use Rattle.asl_lint_warnings.proofs.search.mark_all.Goals as goal

pub loop-node-preserved : goal.loop-node-preserved
loop-node-preserved c =
    let ns = c.args.nodes.now in
    let i = c.loop-node.node-index in
    subst (λ (x : List ℕ). Grown c.args.marks.now.items c.args.opened.now.items x c.mark.new.marks.items c.mark.new.opened.items) (sym (take_more ns i 0 c.loop-node-test.true))
    (more _ _ _ _ _ _ (take i ns) _ c.loop-node.invariant c.in_ok-mark.ensures)
