use Rattle.std.proofs.Common.{List, refl, subst}
use Rattle.asl_choice.specs.declared.pattern.Token.{Token}
use Rattle.asl_choice.specs.Patterns.{Fits}
use Rattle.asl_choice.proofs.Taken.{left_fits, whole_fits, starred, ends}
use Rattle.asl_choice.proofs.pattern.fits.Goals as goal

pub loop-behind-init : goal.loop-behind-init
loop-behind-init c =
    let f = c.in-Some.ensures.found in
    record { same = (left_fits _ _ _ _ f.taken, whole_fits _ _ _ _ f.taken); stopped = f.stopped }

pub loop-behind-preserved : goal.loop-behind-preserved
loop-behind-preserved c =
    record { same = starred _ _ _ _ _ _ _ c.loop-behind.invariant.same c.in-Some-after_star.ensures.found c.in-Some-after_leftmost.ensures.found; stopped = c.in-Some-after_leftmost.ensures.stopped }

pub returns-in_default-after_leftmost : goal.returns-in_default-after_leftmost
returns-in_default-after_leftmost c = (
  λ no. absurd (cc),
  λ fit.
      let P : List Token → Type 0 = λ ts. Fits ts c.loop-behind.text.now in
      absurd (c.in_default-after_leftmost.ensures.none refl (subst P c.in-Some-after_star.ensures.found (c.loop-behind.invariant.same.0 fit))),
)

pub returns : goal.returns
returns c =
    let same = c.loop-behind.invariant.same in
    let end = ends c.loop-behind.pattern.now c.loop-behind.text.now c.loop-behind.invariant.stopped (c.in_default-after_star.ensures.none refl) in
    (λ yes. same.1 (end.1 (c.are_over.ensures.0 yes)), λ fit. c.are_over.ensures.1 (end.0 (same.0 fit)))
