use Rattle.std.proofs.Common.{ℕ, List, ◌∷◌, ap}
use Rattle.std.specs.Prelude.{map}
use Rattle.asl_writing.proofs.Pieces.{right, written}
use Rattle.asl_lint.specs.Gitlab.{issue_object}
use Rattle.asl_lint.specs.private.Issues.{issue_seen}
use Rattle.asl_lint.proofs.Writing.{items_end}
use Rattle.asl_lint.proofs.gitlab_issues.put_issues.Goals as goal

pub returns : goal.returns
returns c =
    written (right c.in_ok-put_char.ensures (right c.in_ok-put_each.ensures c.in_ok-put_char-2.ensures))
    (ap (λ (t : List ℕ). 91 ∷ t) (items_end issue_object (map issue_seen c.args.issues.now)))
