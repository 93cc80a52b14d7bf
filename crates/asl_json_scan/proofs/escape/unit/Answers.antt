use Rattle.std.proofs.Common.{length, arith, sym, ap, ◌∙◌}
use Rattle.std.proofs.lemmas.Result.{err_from_is_err_and}
use Rattle.asl_json_scan.specs.private.Chars.{unit_1, unit_2, unit_3}
use Rattle.asl_json_scan.proofs.Escapes.{breaks_along, begins_by, first_digit, second_digit, second_alone, third_digit, is_unit}
use Rattle.asl_json_scan.proofs.escape.unit.Goals as goal

pub returns-in_err-second-clause-broken : goal.returns-in_err-second-clause-broken
returns-in_err-second-clause-broken c =
    let p = err_from_is_err_and c.from_residual-in_err-second.result c.from_residual-in_err-second.ensures.1 in
    let h = c.in_ok-first.ensures.found in
    rw (p.1, p.2) (λ s. breaks_along c.in_err-second.field-0.0 _ _ (first_digit _ _ _ h s) (c.in_err-second.ensures.broken (unit_1 h.digit) s tt))

pub returns-then-begins_low-clause-broken : goal.returns-then-begins_low-clause-broken
returns-then-begins_low-clause-broken c = λ s.
    let h = c.in_ok-first.ensures.found in
    let g = c.in_ok-second.ensures.found in
    let low = begins_by _ _ _ _ _ h g _ (sym c.begins_low.ensures ∙ c.if-begins_low.true) in
    rw c.lone.ensures (first_digit _ _ _ h s ∙ second_alone h.digit _ _ _ c.args.left g s low (omega (arith, c.requires, ap length h.parts)))

pub returns-in_err-third-clause-broken : goal.returns-in_err-third-clause-broken
returns-in_err-third-clause-broken c =
    let p = err_from_is_err_and c.from_residual-in_err-third.result c.from_residual-in_err-third.ensures.1 in
    let h = c.in_ok-first.ensures.found in
    let g = c.in_ok-second.ensures.found in
    let low = begins_by _ _ _ _ _ h g _ (sym c.begins_low.ensures ∙ c.if-begins_low.false) in
    rw (p.1, p.2) (λ s. breaks_along c.in_err-third.field-0.0 _ _ (first_digit _ _ _ h s ∙ second_digit h.digit _ _ _ g s low) (c.in_err-third.ensures.broken (unit_2 h.digit g.digit) s tt))

pub returns-in_err-fourth-clause-broken : goal.returns-in_err-fourth-clause-broken
returns-in_err-fourth-clause-broken c =
    let p = err_from_is_err_and c.from_residual-in_err-fourth.result c.from_residual-in_err-fourth.ensures.1 in
    let h = c.in_ok-first.ensures.found in
    let g = c.in_ok-second.ensures.found in
    let k = c.in_ok-third.ensures.found in
    let low = begins_by _ _ _ _ _ h g _ (sym c.begins_low.ensures ∙ c.if-begins_low.false) in
    rw (p.1, p.2) (λ s. breaks_along c.in_err-fourth.field-0.0 _ _ (first_digit _ _ _ h s ∙ second_digit h.digit _ _ _ g s low ∙ third_digit h.digit g.digit _ _ _ k s) (c.in_err-fourth.ensures.broken (unit_3 h.digit g.digit k.digit) s tt))

pub returns-clause-found : goal.returns-clause-found
returns-clause-found c =
    is_unit _ _ _ _ _ _ (record { r1 = c.in_ok-first.rest.now; r2 = c.in_ok-second.rest.now; r3 = c.in_ok-third.rest.now; d1 = c.in_ok-first.ensures.found; d2 = c.in_ok-second.ensures.found; d3 = c.in_ok-third.ensures.found; d4 = c.in_ok-fourth.ensures.found })
    (sym c.begins_low.ensures ∙ c.if-begins_low.false)
