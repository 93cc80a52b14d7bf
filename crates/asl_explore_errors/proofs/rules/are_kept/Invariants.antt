use Rattle.std.proofs.Common.{◌≡◌}
use Rattle.asl_explore_errors.specs.Rules.{are_kept}
use Rattle.asl_explore_errors.proofs.rules.are_kept.Given as goal

-- no order ends against one of those so far
abbrev pub invariant-loop-number : goal.invariant-loop-number
invariant-loop-number l = l.kept ≡ are_kept l.number l.found
