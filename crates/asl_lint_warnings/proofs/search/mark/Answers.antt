use Rattle.std.proofs.Common.{◌≡◌, ◌<◌, ◌∷◌, ◌∙◌, [], false, true, set, length, sym, subst, List, ℕ, arith}
use Rattle.std.proofs.lemmas.List.{get_or_read}
use Rattle.asl_lint_warnings.specs.private.Marks.{is_marked}
use Rattle.asl_lint_warnings.specs.private.Growths.{Grown}
use Rattle.asl_lint_warnings.proofs.Growing.{marked}
use Rattle.asl_lint_warnings.proofs.search.mark.Goals as goal

pub returns : goal.returns
returns c =
    let a = c.args.marks.now.items in
    let node = c.args.node in
    let lt : node < length a = omega (arith, c.if-node-len.false, c.len.ensures) in
    let un : is_marked a node ≡ false = sym (get_or_read a node c.index.result.now lt c.index.ensures false) ∙ c.if-index.false in
    subst (λ (q : List ℕ). Grown a c.args.opened.now.items (node ∷ []) (set a node true) q) (sym c.in_ok-push.ensures.items) (marked a c.args.opened.now.items node lt un)
