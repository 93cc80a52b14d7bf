use Rattle.std.proofs.Common.{◌≡◌, ◌++◌, drop}
use Rattle.std.specs.Prelude.{map}
use Rattle.asl_lint.specs.Gitlab.{all_findings}
use Rattle.asl_lint.specs.private.Issues.{placed}
use Rattle.asl_lint.proofs.gitlab_issues.findings_of.Given as goal

-- those so far and those of the files that are left are all
abbrev pub invariant-loop-file : goal.invariant-loop-file
invariant-loop-file l = map placed l.all.items ++ all_findings (drop l.file-index l.files) ≡ all_findings l.files
