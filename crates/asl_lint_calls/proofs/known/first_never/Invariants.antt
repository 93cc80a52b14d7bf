use Rattle.std.proofs.Common.{◌≡◌, drop}
use Rattle.asl_lint_calls.specs.Known.{first_never}
use Rattle.asl_lint_calls.specs.private.View.{all_seen}
use Rattle.asl_lint_calls.proofs.known.first_never.Given as goal

abbrev pub invariant-loop-argument : goal.invariant-loop-argument
invariant-loop-argument l = first_never (all_seen (drop l.argument-index l.arguments)) ≡ first_never (all_seen l.arguments)
