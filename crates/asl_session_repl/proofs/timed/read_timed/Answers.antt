use Rattle.std.proofs.Common.{sym, ◌∙◌, ap, arith, ◌++◌, ◌∷◌}
use Rattle.std.proofs.lemmas.Str.Pattern.{split_parts}
use Rattle.asl_run_input.proofs.StepLines.{apart}
use Rattle.asl_session_repl.proofs.Spaces.{timed_utf8, timed_cut, same_timed}
use Rattle.asl_session_repl.proofs.timed.read_timed.Goals as goal

pub returns-in_default-clause-only : goal.returns-in_default-clause-only
returns-in_default-clause-only c = λ a h. absurd (c.in_default.ensures.cases.0 (timed_utf8 c.args.text.now a h))

pub returns-in_default-split_once-clause-only : goal.returns-in_default-split_once-clause-only
returns-in_default-split_once-clause-only c = λ a h. absurd (rw c.in_default-split_once.is at (timed_cut c.args.text.now c.in-Ok.text.now a c.split_once.result c.in-Ok.ensures.cases.0 c.split_once.ensures.cases h))

pub returns-in_default-read_when-clause-only : goal.returns-in_default-read_when-clause-only
returns-in_default-read_when-clause-only c = λ a h.
    let cut = rw c.in-Some.is at (timed_cut c.args.text.now c.in-Ok.text.now a c.split_once.result c.in-Ok.ensures.cases.0 c.split_once.ensures.cases h) in
    absurd (apart c.read_when.result a.when c.in_default-read_when.is (c.read_when.ensures.only a.when (rw cut.1 h.moment_is)))

pub returns-in_default-2-clause-only : goal.returns-in_default-2-clause-only
returns-in_default-2-clause-only c = λ a h.
    let cut = rw c.in-Some.is at (timed_cut c.args.text.now c.in-Ok.text.now a c.split_once.result c.in-Ok.ensures.cases.0 c.split_once.ensures.cases h) in
    absurd (apart c.in_ok-place.field-0 a.place c.in_default-2.is (c.in_ok-place.ensures.only a.place h.place_in cut.0))

pub returns-clause-found : goal.returns-clause-found
returns-clause-found c =
    let cut = rw c.in-Some.is at (split_parts 32 c.in-Ok.text.now c.split_once.result c.split_once.ensures.cases (omega arith)) in
    let place = rw c.in-Some-2.is at c.in_ok-place.ensures.found in
    record {
      place_in = rw c.numbers-bound.ensures.value at c.numbers-bound.ensures.bound;
      moment = c.in-Some.moment.now;
      moment_is = c.in-Some-read_when.ensures.found;
      text_is = sym c.in-Ok.ensures.cases.0 ∙ cut.0 ∙ ap (λ t. t ++ 32 ∷ c.in-Some.moment.now) place;
    }

pub returns-clause-only : goal.returns-clause-only
returns-clause-only c = λ a h.
    let cut = rw c.in-Some.is at (timed_cut c.args.text.now c.in-Ok.text.now a c.split_once.result c.in-Ok.ensures.cases.0 c.split_once.ensures.cases h) in
    same_timed a c.in-Some-2.place c.in-Some-read_when.when c.in_ok-place.field-0 c.read_when.result c.in-Some-2.is (c.in_ok-place.ensures.only a.place h.place_in cut.0) c.in-Some-read_when.is (c.read_when.ensures.only a.when (rw cut.1 h.moment_is))
