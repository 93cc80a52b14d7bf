use Rattle.std.proofs.Common.{◌∙◌}
use Rattle.asl_session_repl.proofs.Spaces.{first_cut, second_cut, front_is}
use Rattle.asl_session_repl.proofs.timed.halves.Goals as goal

pub returns-in_default-clause-only : goal.returns-in_default-clause-only
returns-in_default-clause-only c = λ a b h. absurd (rw c.in_default.is at (first_cut c.args.text.now a b c.split_once.result c.split_once.ensures.cases h))

pub returns-in_default-split_once-clause-only : goal.returns-in_default-split_once-clause-only
returns-in_default-split_once-clause-only c = λ a b h.
    let first = rw c.in-Some.is at (first_cut c.args.text.now a b c.split_once.result c.split_once.ensures.cases h) in
    absurd (rw c.in_default-split_once.is at (second_cut c.args.text.now c.in-Some.rest.now a b c.split_once-2.result c.split_once-2.ensures.cases h first.1))

pub returns-clause-only : goal.returns-clause-only
returns-clause-only c = λ a b h.
    let first = rw c.in-Some.is at (first_cut c.args.text.now a b c.split_once.result c.split_once.ensures.cases h) in
    let second = rw c.in-Some-split_once.is at (second_cut c.args.text.now c.in-Some.rest.now a b c.split_once-2.result c.split_once-2.ensures.cases h first.1) in
    let whole = c.as_bytes.ensures.value in
    let rest = c.as_bytes-2.ensures.value in
    (rw whole (front_is c.args.text.now a b h c.in-Some.place.now c.in-Some-split_once.moment.now first.0 second.0), rest ∙ second.1)
