use Rattle.std.proofs.Common.{◌∙◌, sym}
use Rattle.asl_run_input.proofs.StepLines.{apart}
use Rattle.asl_session_repl.specs.Moments.{AreSteps}
use Rattle.asl_session_repl.proofs.Spaces.{steps_utf8, same_steps}
use Rattle.asl_session_repl.proofs.timed.read_steps.Goals as goal

pub returns-in_default-clause-only : goal.returns-in_default-clause-only
returns-in_default-clause-only c = λ a b h. absurd (c.in_default.ensures.cases.0 (steps_utf8 c.args.text.now a b h))

pub returns-in_default-halves-clause-only : goal.returns-in_default-halves-clause-only
returns-in_default-halves-clause-only c = λ a b h.
    let steps : AreSteps c.in-Ok.text.now a b = rw (← c.in-Ok.ensures.cases.0) at h in
    absurd (rw c.in_default-halves.is at (c.halves.ensures.only a b steps))

pub returns-in_default-2-clause-only : goal.returns-in_default-2-clause-only
returns-in_default-2-clause-only c = λ a b h.
    let steps : AreSteps c.in-Ok.text.now a b = rw (← c.in-Ok.ensures.cases.0) at h in
    let cut = rw c.in-Some.is at (c.halves.ensures.only a b steps) in
    absurd (apart c.in_ok-one.field-0 a c.in_default-2.is (c.in_ok-one.ensures.only a (rw cut.0 steps.one_is)))

pub returns-in_default-3-clause-only : goal.returns-in_default-3-clause-only
returns-in_default-3-clause-only c = λ a b h.
    let steps : AreSteps c.in-Ok.text.now a b = rw (← c.in-Ok.ensures.cases.0) at h in
    let cut = rw c.in-Some.is at (c.halves.ensures.only a b steps) in
    absurd (apart c.in_ok-other.field-0 b c.in_default-3.is (c.in_ok-other.ensures.only b (rw cut.1 steps.other_is)))

pub returns-clause-found : goal.returns-clause-found
returns-clause-found c = record {
  one = c.in-Some.one.now;
  other = c.in-Some.other.now;
  text_is = sym c.in-Ok.ensures.cases.0 ∙ c.in-Some.ensures.found;
  one_is = rw c.in-Some-2.is at c.in_ok-one.ensures.found;
  other_is = rw c.in-Some-3.is at c.in_ok-other.ensures.found;
}

pub returns-clause-only : goal.returns-clause-only
returns-clause-only c = λ a b h.
    let steps : AreSteps c.in-Ok.text.now a b = rw (← c.in-Ok.ensures.cases.0) at h in
    let cut = rw c.in-Some.is at (c.halves.ensures.only a b steps) in
    same_steps c.in_ok-one.field-0 c.in_ok-other.field-0 c.in-Some-2.one c.in-Some-3.other a b c.in-Some-2.is c.in-Some-3.is (c.in_ok-one.ensures.only a (rw cut.0 steps.one_is)) (c.in_ok-other.ensures.only b (rw cut.1 steps.other_is))
