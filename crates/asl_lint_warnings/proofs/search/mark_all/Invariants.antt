use Rattle.std.proofs.Common.{take}
use Rattle.asl_lint_warnings.specs.private.Growths.{Grown}
use Rattle.asl_lint_warnings.proofs.search.mark_all.Given as goal

abbrev pub invariant-loop-node : goal.invariant-loop-node
invariant-loop-node l = Grown l.fn.marks.items l.fn.opened.items (take l.node-index l.nodes) l.marks.items l.opened.items
