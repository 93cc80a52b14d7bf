use Rattle.std.proofs.Common.{◌≡◌, drop}
use Rattle.asl_lint.specs.Reports.{is_good}
use Rattle.asl_lint.proofs.report.is_good.Given as goal

-- what is left decides
abbrev pub invariant-loop-file : goal.invariant-loop-file
invariant-loop-file l = is_good l.strict l.files ≡ is_good l.strict (drop l.file-index l.files)
