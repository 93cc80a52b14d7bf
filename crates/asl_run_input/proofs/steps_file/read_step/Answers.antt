use Rattle.std.proofs.Common.{sym, ◌∙◌, ap, arith, ◌++◌, ◌∷◌}
use Rattle.std.proofs.lemmas.Str.Pattern.{split_parts}
use Rattle.asl_run_input.proofs.StepLines.{line_utf8, line_cut, apart, same_step}
use Rattle.asl_run_input.proofs.steps_file.read_step.Goals as goal

pub returns-in_default-clause-only : goal.returns-in_default-clause-only
returns-in_default-clause-only c = λ s h. absurd (c.in_default.ensures.cases.0 (line_utf8 c.args.line.now s h))

pub returns-in_default-split_once-clause-only : goal.returns-in_default-split_once-clause-only
returns-in_default-split_once-clause-only c = λ s h. absurd (rw c.in_default-split_once.is at (line_cut c.args.line.now c.in-Ok.text.now s c.split_once.result c.in-Ok.ensures.cases.0 c.split_once.ensures.cases h))

pub returns-in_default-read_stamp-clause-only : goal.returns-in_default-read_stamp-clause-only
returns-in_default-read_stamp-clause-only c = λ s h.
    let cut = rw c.in-Some.is at (line_cut c.args.line.now c.in-Ok.text.now s c.split_once.result c.in-Ok.ensures.cases.0 c.split_once.ensures.cases h) in
    absurd (apart c.read_stamp.result s.moment c.in_default-read_stamp.is (c.read_stamp.ensures.only s.moment (rw cut.1 h.stamp_is)))

pub returns-in_default-2-clause-only : goal.returns-in_default-2-clause-only
returns-in_default-2-clause-only c = λ s h.
    let cut = rw c.in-Some.is at (line_cut c.args.line.now c.in-Ok.text.now s c.split_once.result c.in-Ok.ensures.cases.0 c.split_once.ensures.cases h) in
    absurd (apart c.in_ok-place.field-0 s.place c.in_default-2.is (c.in_ok-place.ensures.only s.place h.place_in cut.0))

pub returns-clause-found : goal.returns-clause-found
returns-clause-found c =
    let cut = rw c.in-Some.is at (split_parts 32 c.in-Ok.text.now c.split_once.result c.split_once.ensures.cases (omega arith)) in
    let place = rw c.in-Some-2.is at c.in_ok-place.ensures.found in
    record {
      place_in = rw c.numbers-bound.ensures.value at c.numbers-bound.ensures.bound;
      stamp = c.in-Some.stamp.now;
      stamp_is = c.in-Some-read_stamp.ensures.found;
      text = sym c.in-Ok.ensures.cases.0 ∙ cut.0 ∙ ap (λ t. t ++ 32 ∷ c.in-Some.stamp.now) place;
    }

pub returns-clause-only : goal.returns-clause-only
returns-clause-only c = λ s h.
    let cut = rw c.in-Some.is at (line_cut c.args.line.now c.in-Ok.text.now s c.split_once.result c.in-Ok.ensures.cases.0 c.split_once.ensures.cases h) in
    same_step s c.in-Some-2.place c.in-Some-read_stamp.moment c.in_ok-place.field-0 c.in-Some-2.is (c.in_ok-place.ensures.only s.place h.place_in cut.0) (c.in-Some-read_stamp.ensures.only s.moment (rw cut.1 h.stamp_is))
