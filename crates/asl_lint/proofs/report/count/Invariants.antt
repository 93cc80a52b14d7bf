use Rattle.std.proofs.Common.{◌≡◌, ◌+◌, ◌≤◌, ◌*◌, ◌^◌, drop}
use Rattle.asl_lint.specs.Reports.{count}
use Rattle.asl_lint.proofs.report.count.Given as goal

-- those so far and those of the files that are left are all; each file has fewer than fit a word
abbrev pub invariant-loop-file : goal.invariant-loop-file
invariant-loop-file l = (l.total + count l.severity (drop l.file-index l.files) ≡ count l.severity l.files) × (l.total ≤ l.file-index * 18446744073709551615)
