use Rattle.std.proofs.Common.{[], ◌<◌, map, List, ℕ, Vec, Global, sym, subst}
use Rattle.std.proofs.lemmas.List.{length-map}
use Rattle.asl_lint_warnings.specs.private.Growths.{Grown}
use Rattle.asl_lint_warnings.proofs.Searching.{Searched, go_on, finish, emptied}
use Rattle.asl_lint_warnings.proofs.search.reached.Goals as goal

pub loop-node-preserved : goal.loop-node-preserved
loop-node-preserved c =
    let es : List (List ℕ) = map (λ (v : Vec ℕ Global). v.items) c.args.edges.now in
    let a = c.loop-node.marks.items in
    go_on es c.args.starts.now a c.mark_all-in-Some.new.marks.items c.pop.new.self.items c.mark_all-in-Some.new.opened.items c.in-Some.node
    (subst (Searched es c.args.starts.now a) c.in-Some.ensures.items c.loop-node.invariant)
    (subst (λ (ns : List ℕ). Grown a c.pop.new.self.items ns c.mark_all-in-Some.new.marks.items c.mark_all-in-Some.new.opened.items) c.nodes_behind.ensures c.in_ok-mark_all-2.ensures)

pub returns-clause-marks : goal.returns-clause-marks
returns-clause-marks c = λ i lt.
    let f : Vec ℕ Global → List ℕ = λ v. v.items in
    let es : List (List ℕ) = map f c.args.edges.now in
    let done : Searched es c.args.starts.now c.loop-node.marks.items [] = subst (Searched es c.args.starts.now c.loop-node.marks.items) (emptied c.pop.result c.loop-node.opened.items _ _ c.loop-node.opened.ok.0 c.in_default.not-Some c.pop.ensures.cases) c.loop-node.invariant in
    finish es c.args.starts.now c.loop-node.marks.items done i (subst (λ (n : ℕ). i < n) (sym (length-map c.args.edges.now f)) lt)
