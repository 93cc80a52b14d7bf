use Rattle.std.proofs.Common.{◌≡◌, ◌++◌, drop, map}
use Rattle.asl_intrinsic_functions.specs.Seen.{all_seen as all_data}
use Rattle.asl_lint_calls.specs.Known.{data_in}
use Rattle.asl_lint_calls.specs.private.View.{all_seen}
use Rattle.asl_lint_calls.proofs.known.values.Given as goal

abbrev pub invariant-loop-argument : goal.invariant-loop-argument
invariant-loop-argument l = all_data l.values.items ++ map data_in (all_seen (drop l.argument-index l.arguments)) ≡ map data_in (all_seen l.arguments)
