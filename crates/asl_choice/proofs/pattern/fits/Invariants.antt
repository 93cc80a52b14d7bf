use Rattle.std.proofs.Common.{length}
use Rattle.std.specs.Prelude.{◌↔◌}
use Rattle.asl_choice.specs.Patterns.{tokens, Fits}
use Rattle.asl_choice.specs.private.Taking.{IsStopped}
use Rattle.asl_choice.proofs.pattern.fits.Given as goal

abbrev pub invariant-loop-behind : goal.invariant-loop-behind
invariant-loop-behind l = record {
  same : Fits (tokens l.fn.pattern) l.fn.text ↔ Fits (tokens l.pattern) l.text;
  stopped : IsStopped (tokens l.pattern);
}

abbrev pub decreases-loop-behind : goal.decreases-loop-behind
decreases-loop-behind l = length l.pattern
