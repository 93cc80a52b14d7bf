use Rattle.std.proofs.Common.{◌≡◌, length}
use Rattle.asl_choice.specs.Patterns.{tokens, has_open_escape as is_open}
use Rattle.asl_choice.proofs.pattern.has_open_escape.Given as goal

abbrev pub invariant-loop-token : goal.invariant-loop-token
invariant-loop-token l = is_open (tokens l.fn.pattern) ≡ is_open (tokens l.pattern)

abbrev pub decreases-loop-token : goal.decreases-loop-token
decreases-loop-token l = length l.pattern
