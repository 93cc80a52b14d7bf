use Rattle.std.proofs.Common.{◌∙◌, sym, ap, Some}
use Rattle.asl_mock.specs.private.EqualLaws.{answer_decides}
use Rattle.asl_explore.proofs.answers.are_equal.Goals as goal

pub returns-in-Some-Some : goal.returns-in-Some-Some
returns-in-Some-Some c =
    let one = c.in-Some-Some.one.now in
    let other = c.in-Some-Some.other.now in
    let d = answer_decides one other in
    rw (c.in-Some-Some.is-0, c.in-Some-Some.is-1) (
      λ t. ap Some (d.0 (sym c.eq.ensures ∙ t)),
      λ e. c.eq.ensures ∙ d.1 (cc e),
    )
