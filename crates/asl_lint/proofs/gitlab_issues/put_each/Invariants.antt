use Rattle.std.proofs.Common.{◌≡◌, ◌++◌, drop, false}
use Rattle.std.specs.Prelude.{map, string_bytes}
use Rattle.asl_lint.specs.Gitlab.{issue_object}
use Rattle.asl_lint.specs.private.Issues.{issue_seen}
use Rattle.asl_lint.specs.private.Writing.{more_items}
use Rattle.asl_lint.proofs.gitlab_issues.put_each.Given as goal

-- the issues so far and those that are left are all
abbrev pub invariant-loop-issue : goal.invariant-loop-issue
invariant-loop-issue l = string_bytes l.out ++ more_items issue_object l.is_begun (map issue_seen (drop l.issue-index l.issues)) ≡ string_bytes l.fn.out ++ more_items issue_object false (map issue_seen l.issues)
