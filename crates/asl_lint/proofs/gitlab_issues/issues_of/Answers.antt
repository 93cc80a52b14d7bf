use Rattle.std.proofs.Common.{◌∙◌, ◌∷◌, [], ℕ, List, ap, string_bytes}
use Rattle.std.specs.Prelude.{map, unwrap_or}
use Rattle.std.specs.HashMap.{get_by_text}
use Rattle.std.proofs.lemmas.List.{map-append}
use Rattle.asl_lint.proofs.Issuing.{more_alike, more_issues}
use Rattle.asl_lint.specs.Gitlab.{issues_behind}
use Rattle.asl_lint.specs.private.Issues.{issue_seen, placed}
use Rattle.asl_lint.proofs.gitlab_issues.issues_of.Goals as goal

pub loop-one-preserved : goal.loop-one-preserved
loop-one-preserved c =
    let ps = c.args.found.now in
    let i = c.loop-one.one-index in
    let p = c.one-item.result in
    let text = string_bytes c.in_ok-identity_of.field-0 in
    let made = c.in_ok-issue_of.field-0 in
    let before = get_by_text c.loop-one.counts in
    let keeps = c.in_ok-identity_of.ensures in
    let n = c.in_ok-number.number in (
      more_issues ps i p (map issue_seen c.loop-one.issues.items) (map issue_seen c.push.new.self.items) (issues_behind [] (map placed ps)) (issue_seen made) n c.as_str.result.now c.loop-one-test.true c.one-item.is
          (ap (map issue_seen) c.in_ok-push.ensures.items ∙ map-append issue_seen c.loop-one.issues.items (made ∷ []))
          (c.as_str.ensures.value ∙ c.in_ok-kept.ensures)
          (c.in_ok-number.ensures.number ∙ ap (λ (t : List ℕ). unwrap_or (before t) 0) keeps ∙ c.loop-one.invariant.1 _)
          c.in_ok-issue_of.ensures c.loop-one.invariant.0,
      λ t. more_alike ps i p before (get_by_text c.numbered.new.counts t) n text t c.loop-one-test.true c.one-item.is keeps c.in_ok-number.ensures.number (c.in_ok-number.ensures.counts t) c.loop-one.invariant.1,
    )
