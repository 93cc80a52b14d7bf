use Rattle.std.proofs.Common.{◌≡◌, drop}
use Rattle.asl_lint_calls.specs.Known.{are_values}
use Rattle.asl_lint_calls.specs.private.View.{all_seen}
use Rattle.asl_lint_calls.proofs.known.are_values.Given as goal

abbrev pub invariant-loop-argument : goal.invariant-loop-argument
invariant-loop-argument l = are_values (all_seen (drop l.argument-index l.arguments)) ≡ are_values (all_seen l.arguments)
