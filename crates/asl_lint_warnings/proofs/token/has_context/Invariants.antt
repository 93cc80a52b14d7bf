use Rattle.std.proofs.Common.{◌≡◌, drop}
use Rattle.asl_lint_warnings.specs.Tokens.{has_context}
use Rattle.asl_lint_warnings.proofs.token.has_context.Given as goal

abbrev pub invariant-loop-i : goal.invariant-loop-i
invariant-loop-i l = has_context (drop l.i l.bytes) ≡ has_context l.bytes
