use Rattle.std.proofs.Common.{◌≡◌, ◌++◌}
use Rattle.std.specs.List.{filter}
use Rattle.std.specs.Vec.Iter.{into_iter_items}
use Rattle.asl_cli.specs.Choosing.{is_meant}
use Rattle.asl_cli.proofs.choosing.meant_by.Given as goal

-- what is kept so far, and what is meant of those that are left
abbrev pub invariant-loop-test : goal.invariant-loop-test
invariant-loop-test l = l.kept.items ++ filter (is_meant l.word) (into_iter_items l.test-iterator) ≡ filter (is_meant l.word) l.fn.tests.items
