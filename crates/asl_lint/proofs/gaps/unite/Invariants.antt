use Rattle.std.proofs.Common.{length}
use Rattle.asl_lint.proofs.gaps.unite.Given as goal

-- each turn takes a span out
abbrev pub decreases-loop-spans : goal.decreases-loop-spans
decreases-loop-spans l = length l.spans.items
