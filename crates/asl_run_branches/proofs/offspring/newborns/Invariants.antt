use Rattle.std.proofs.Common.{◌≡◌, ◌++◌, ◌+◌, ◌≤◌, ◌^◌}
use Rattle.std.specs.Vec.Iter.{into_iter_items, into_iter_len}
use Rattle.asl_run_branches.specs.Changes.{newborns}
use Rattle.asl_run_branches.proofs.offspring.newborns.Given as goal

abbrev pub invariant-loop-current : goal.invariant-loop-current
invariant-loop-current l = record {
  made : l.frames.items ++ newborns l.place l.number (into_iter_items l.current-iterator) ≡ newborns l.place 0 l.fn.records;
  room : l.number + into_iter_len l.current-iterator ≤ 10 ^ 9;
}
