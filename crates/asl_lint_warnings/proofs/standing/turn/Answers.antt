use Rattle.std.proofs.Common.{◌≡◌, ◌∙◌, map, List, ℕ, Vec, Global, sym, subst, take, length}
use Rattle.std.proofs.lemmas.List.{length-map, take_more}
use Rattle.asl_lint_warnings.specs.private.Places.{HasTurned}
use Rattle.asl_lint_warnings.proofs.Turning.{edges_more}
use Rattle.asl_lint_warnings.proofs.standing.turn.Goals as goal

pub loop-to-preserved : goal.loop-to-preserved
loop-to-preserved c =
    let f : Vec ℕ Global → List ℕ = λ v. v.items in
    let es : List (List ℕ) = map f c.args.turned.now.items in
    let fs : List (List ℕ) = map f c.loop-to.turned.items in
    let gs : List (List ℕ) = map f c.turn_one.new.turned.items in
    let size : length fs ≡ length es = length-map c.loop-to.turned.items f ∙ c.loop-to.invariant.0 ∙ sym (length-map c.args.turned.now.items f) in (
      c.in_ok-turn_one.ensures.size ∙ c.loop-to.invariant.0,
      subst (λ (x : List ℕ). HasTurned es c.args.from x gs) (sym (take_more c.args.targets.now c.loop-to.to-index 0 c.loop-to-test.true))
          (edges_more es fs gs c.args.from (take c.loop-to.to-index c.args.targets.now) _ size c.loop-to.invariant.1 c.in_ok-turn_one.ensures.edges),
    )
