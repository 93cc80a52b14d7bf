use Rattle.std.proofs.Common.{◌≡◌, ℕ, ◌<◌, ◌≤◌, vec_len, vec_capacity, length, slice_index_or, Ok}
use Rattle.asl_suite.specs.declared.case_report.CaseReport.{CaseReport}
use Rattle.asl_suite_workers.specs.Cases.{IsRun, IsAnswered}
use Rattle.asl_suite_workers.proofs.workers.collect.Given as goal

abbrev pub invariant-cases : goal.invariant-cases
invariant-cases g l = record {
  len : length l.reports.items ≡ l.case;
  room : g.S.Cases.count l.suite ≤ vec_capacity l.reports;
  each : (i : ℕ) (d : CaseReport) → i < l.case → IsRun g.G.Gate.began g.G.Gate.ended (g.S.Cases.gives l.suite) i (Ok (slice_index_or l.reports.items i d));
  count : vec_len l.found ≡ g.S.Cases.count l.suite;
  found : IsAnswered (IsRun g.G.Gate.began g.G.Gate.ended (g.S.Cases.gives l.suite)) l.found.items;
}
