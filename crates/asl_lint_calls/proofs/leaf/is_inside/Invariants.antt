use Rattle.std.proofs.Common.{◌≡◌, drop, cond}
use Rattle.asl_intrinsic.specs.Grammar.{is_inside, is_escape}
use Rattle.asl_lint_calls.proofs.leaf.is_inside.Given as goal

abbrev pub invariant-loop-byte : goal.invariant-loop-byte
invariant-loop-byte l = cond l.is_behind (is_escape (drop l.byte-index l.text)) (is_inside (drop l.byte-index l.text)) ≡ is_inside l.text
