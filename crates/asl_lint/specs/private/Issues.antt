-- Issues while they are made.
use Rattle.asl_lint.specs.declared.gitlab_issues.Issue.{Issue as CodeIssue}
use Rattle.asl_lint.specs.declared.gitlab_issues.Placed.{Placed as CodePlaced}
use Rattle.std.specs.Prelude.{string_bytes}
use Rattle.asl_lint.specs.Gitlab.{Issue, Placed}

abbrev pub placed : CodePlaced → Placed
placed p = (p.file.now, p.finding.now)

abbrev pub issue_seen : CodeIssue → Issue
issue_seen i = record {
  file = i.file.now;
  finding = i.finding.now;
  fingerprint = string_bytes i.fingerprint;
}
