use Rattle.std.proofs.Common.{◌≡◌, ◌++◌}
use Rattle.std.specs.Vec.Iter.{into_iter_items}
use Rattle.asl_cli.specs.Linting.{heeded, rules_in}
use Rattle.asl_cli.proofs.linting.heeded_of.Given as goal

-- what is kept so far, and what is heeded of those that are left
abbrev pub invariant-loop-finding : goal.invariant-loop-finding
invariant-loop-finding l = l.kept.items ++ heeded (rules_in l.ignored) (into_iter_items l.finding-iterator) ≡ heeded (rules_in l.ignored) l.fn.findings.items
