use Rattle.std.proofs.Common.{refl}
use Rattle.asl_choice.specs.Patterns.{tokens}
use Rattle.asl_choice.proofs.Taken.{at_leftmost, furthest, nowhere}
use Rattle.asl_choice.proofs.pattern.after_leftmost.Goals as goal

pub loop-left-preserved : goal.loop-left-preserved
loop-left-preserved c = furthest (tokens c.args.pattern.now) _ c.loop-left.text.now c.in_ok-_first.rest.now c.args.text.now c.loop-left.invariant c.in_ok-_first.ensures.cases.0 (c.in_default.ensures.none refl)

pub returns-in-Some-clause-found : goal.returns-in-Some-clause-found
returns-in-Some-clause-found c =
    let here = at_leftmost _ _ _ _ c.in-Some.ensures.found in
    (λ fit. here.0 (c.loop-left.invariant.0 fit), λ fit. c.loop-left.invariant.1 (here.1 fit))

pub returns-in_err-_first-clause-none : goal.returns-in_err-_first-clause-none
returns-in_err-_first-clause-none c = λ _ fit. nowhere (tokens c.args.pattern.now) c.loop-left.text.now c.in_err-_first.ensures.cases (c.in_default.ensures.none refl) (c.loop-left.invariant.0 fit)
