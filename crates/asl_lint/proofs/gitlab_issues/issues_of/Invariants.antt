use Rattle.std.proofs.Common.{◌≡◌, ◌++◌, ℕ, List, [], drop, take}
use Rattle.std.specs.Prelude.{map, unwrap_or}
use Rattle.std.specs.HashMap.{get_by_text}
use Rattle.asl_lint.specs.Gitlab.{alike, identity, issues_behind}
use Rattle.asl_lint.specs.private.Issues.{issue_seen, placed}
use Rattle.asl_lint.proofs.gitlab_issues.issues_of.Given as goal

-- the issues so far and those that are left are all, and it is known of each text how many so far keep it
abbrev pub invariant-loop-one : goal.invariant-loop-one
invariant-loop-one l =
    (map issue_seen l.issues.items ++ issues_behind (map identity (map placed (take l.one-index l.found))) (map placed (drop l.one-index l.found)) ≡ issues_behind [] (map placed l.found))
    × ((t : List ℕ) → unwrap_or (get_by_text l.counts t) 0 ≡ alike t (map identity (map placed (take l.one-index l.found))))
