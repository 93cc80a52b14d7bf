use Rattle.std.specs.Prelude.{map}
use Rattle.asl_lint_warnings.specs.private.Growths.{weight}
use Rattle.asl_lint_warnings.proofs.Searching.{Searched}
use Rattle.asl_lint_warnings.proofs.search.reached.Given as goal

abbrev pub invariant-loop-node : goal.invariant-loop-node
invariant-loop-node l = Searched (map (λ v. v.items) l.edges) l.starts l.marks.items l.opened.items

abbrev pub decreases-loop-node : goal.decreases-loop-node
decreases-loop-node l = weight l.marks.items l.opened.items
