use Rattle.std.proofs.Common.{◌≤◌, length}
use Rattle.asl_choice.specs.Patterns.{tokens}
use Rattle.asl_choice.specs.private.Taking.{AreTaken}
use Rattle.asl_choice.proofs.pattern.after_front.Given as goal

abbrev pub invariant-loop-byte : goal.invariant-loop-byte
invariant-loop-byte l = record {
  taken : AreTaken (tokens l.fn.pattern) l.fn.text (tokens l.pattern) l.text;
  shorter : length l.pattern ≤ length l.fn.pattern;
}

abbrev pub decreases-loop-byte : goal.decreases-loop-byte
decreases-loop-byte l = length l.pattern
