use Rattle.std.proofs.Common.{◌≡◌, ◌++◌, drop}
use Rattle.std.specs.Prelude.{map}
use Rattle.asl_lint.specs.private.Issues.{placed}
use Rattle.asl_lint.proofs.gitlab_issues.add_findings.Given as goal

-- those so far and those that are left are all
abbrev pub invariant-loop-finding : goal.invariant-loop-finding
invariant-loop-finding l = map placed l.all.items ++ map (λ f. (l.file, f)) (drop l.finding-index l.findings) ≡ map placed l.fn.all.items ++ map (λ f. (l.file, f)) l.findings
