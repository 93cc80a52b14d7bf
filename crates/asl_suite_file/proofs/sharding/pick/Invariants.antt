use Rattle.std.proofs.Common.{◌≡◌, ◌++◌, ◌≤◌, ◌+◌, vec_len}
use Rattle.std.specs.Prelude.{vec_capacity}
use Rattle.std.specs.Vec.Iter.{into_iter_items, into_iter_len}
use Rattle.asl_suite_file.specs.Shards.{every, every_after}
use Rattle.asl_suite_file.proofs.sharding.pick.Given as goal

-- what is picked so far, and what is picked of those that are left
abbrev pub invariant-loop-test : goal.invariant-loop-test
invariant-loop-test l = record {
  kept : l.kept.items ++ every_after l.skipped l.apart (into_iter_items l.test-iterator) ≡ every l.first l.apart l.fn.all.items;
  room : vec_len l.kept + into_iter_len l.test-iterator ≤ vec_capacity l.kept;
}
