use Rattle.std.proofs.Common.{◌≡◌, ◌++◌, ◌≤◌, ◌+◌, vec_len}
use Rattle.std.specs.Prelude.{map, vec_capacity}
use Rattle.std.specs.Vec.Iter.{into_iter_items, into_iter_len}
use Rattle.asl_suite.specs.Cases.{strict_report}
use Rattle.asl_suite.proofs.doubting.put_strict.Given as goal

-- those so far, and those of what is left
abbrev pub invariant-loop-report : goal.invariant-loop-report
invariant-loop-report l = record {
  kept : l.strict.items ++ map strict_report (into_iter_items l.report-iterator) ≡ map strict_report l.fn.reports.items;
  room : vec_len l.strict + into_iter_len l.report-iterator ≤ vec_capacity l.strict;
}
