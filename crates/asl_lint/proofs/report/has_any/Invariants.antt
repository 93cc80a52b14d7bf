use Rattle.std.proofs.Common.{◌≡◌, drop}
use Rattle.std.specs.List.{list_any}
use Rattle.asl_lint.specs.Reports.{counts}
use Rattle.asl_lint.proofs.report.has_any.Given as goal

abbrev pub invariant-loop-finding : goal.invariant-loop-finding
invariant-loop-finding l = list_any (counts l.strict) l.findings ≡ list_any (counts l.strict) (drop l.finding-index l.findings)
