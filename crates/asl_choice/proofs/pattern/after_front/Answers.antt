use Rattle.std.proofs.Common.{ℕ, List, arith, refl, subst}
use Rattle.asl_choice.specs.declared.pattern.Token.{Token}
use Rattle.asl_choice.specs.Patterns.{tokens, Fits}
use Rattle.asl_choice.proofs.Taken.{left_fits, one_more, no_tokens}
use Rattle.asl_choice.proofs.pattern.after_front.Goals as goal

pub loop-byte-preserved : goal.loop-byte-preserved
loop-byte-preserved c = record {
  taken = one_more _ _ _ _ _ _ _ c.loop-byte.invariant.taken c.in-Some.ensures.found c.in_ok-text.ensures.found;
  shorter = omega (arith, c.in-Some.ensures.shorter, c.loop-byte.invariant.shorter);
}

pub returns-in_err-text-clause-none : goal.returns-in_err-text-clause-none
returns-in_err-text-clause-none c = λ _ fit.
    let P : List Token → Type 0 = λ ts. Fits ts c.loop-byte.text.now in
    let here = subst P c.in-Some.ensures.found (left_fits _ _ _ _ c.loop-byte.invariant.taken fit) in
    c.in_err-text.ensures.none refl here.0 here.1

pub returns-then-only_text_goes_on-clause-none : goal.returns-then-only_text_goes_on-clause-none
returns-then-only_text_goes_on-clause-none c = λ _ fit.
    let more = c.only_text_goes_on.ensures.on c.if-only_text_goes_on.true in
    let P : List ℕ → Type 0 = λ p. Fits (tokens p) c.loop-byte.text.now in
    more.1 (subst P more.0 (left_fits _ _ _ _ c.loop-byte.invariant.taken fit))

pub returns-clause-found : goal.returns-clause-found
returns-clause-found c = record {
  taken = c.loop-byte.invariant.taken;
  stopped = c.in_default.ensures.none refl;
  over = λ e. c.only_text_goes_on.ensures.off c.if-only_text_goes_on.false (no_tokens _ e);
}
