use Rattle.std.proofs.Common.{length, arith, sym, ap, ◌∙◌, eq-eqb}
use Rattle.std.proofs.lemmas.Result.{err_from_is_err_and}
use Rattle.asl_json_scan.specs.private.Chars.{low_1, low_2, low_3}
use Rattle.std.proofs.lemmas.Bool.{ne_eqb}
use Rattle.asl_json_scan.proofs.Escapes.{breaks_along, begins_by, low_first_digit, low_first_alone, low_second_digit, low_second_alone, low_third_digit, is_low_unit}
use Rattle.asl_json_scan.proofs.escape.low_unit.Goals as goal

pub returns-then-first-ne13-clause-broken : goal.returns-then-first-ne13-clause-broken
returns-then-first-ne13-clause-broken c = λ q s. rw c.lone.ensures (low_first_alone q _ _ _ c.args.left c.in_ok-first.ensures.found s (ne_eqb c.in_ok-first.first 13 c.if-first-ne13.true) (omega (arith, c.requires)))

pub returns-in_err-second-clause-broken : goal.returns-in_err-second-clause-broken
returns-in_err-second-clause-broken c =
    let p = err_from_is_err_and c.from_residual-in_err-second.result c.from_residual-in_err-second.ensures.1 in
    let h = c.in_ok-first.ensures.found in
    rw (p.1, p.2) (λ q s. breaks_along c.in_err-second.field-0.0 _ _ (low_first_digit q _ _ _ h s (eq-eqb c.in_ok-first.first 13 c.if-first-ne13.false)) (c.in_err-second.ensures.broken (low_1 q h.digit) s tt))

pub returns-then-not-begins_low-clause-broken : goal.returns-then-not-begins_low-clause-broken
returns-then-not-begins_low-clause-broken c = λ q s.
    let h = c.in_ok-first.ensures.found in
    let g = c.in_ok-second.ensures.found in
    let low = begins_by _ _ _ _ _ h g _ (sym c.begins_low.ensures ∙ c.if-not-begins_low.true) in
    rw c.lone-then-not-begins_low.ensures (low_first_digit q _ _ _ h s (eq-eqb c.in_ok-first.first 13 c.if-first-ne13.false) ∙ low_second_alone q h.digit _ _ _ c.args.left g s low (omega (arith, c.requires, ap length h.parts)))

pub returns-in_err-third-clause-broken : goal.returns-in_err-third-clause-broken
returns-in_err-third-clause-broken c =
    let p = err_from_is_err_and c.from_residual-in_err-third.result c.from_residual-in_err-third.ensures.1 in
    let h = c.in_ok-first.ensures.found in
    let g = c.in_ok-second.ensures.found in
    let low = begins_by _ _ _ _ _ h g _ (sym c.begins_low.ensures ∙ c.if-not-begins_low.false) in
    rw (p.1, p.2) (λ q s. breaks_along c.in_err-third.field-0.0 _ _ (low_first_digit q _ _ _ h s (eq-eqb c.in_ok-first.first 13 c.if-first-ne13.false) ∙ low_second_digit q h.digit _ _ _ g s low) (c.in_err-third.ensures.broken (low_2 q h.digit g.digit) s tt))

pub returns-in_err-fourth-clause-broken : goal.returns-in_err-fourth-clause-broken
returns-in_err-fourth-clause-broken c =
    let p = err_from_is_err_and c.from_residual-in_err-fourth.result c.from_residual-in_err-fourth.ensures.1 in
    let h = c.in_ok-first.ensures.found in
    let g = c.in_ok-second.ensures.found in
    let k = c.in_ok-third.ensures.found in
    let low = begins_by _ _ _ _ _ h g _ (sym c.begins_low.ensures ∙ c.if-not-begins_low.false) in
    rw (p.1, p.2) (λ q s. breaks_along c.in_err-fourth.field-0.0 _ _ (low_first_digit q _ _ _ h s (eq-eqb c.in_ok-first.first 13 c.if-first-ne13.false) ∙ low_second_digit q h.digit _ _ _ g s low ∙ low_third_digit q h.digit g.digit _ _ _ k s) (c.in_err-fourth.ensures.broken (low_3 q h.digit g.digit k.digit) s tt))

pub returns-clause-found : goal.returns-clause-found
returns-clause-found c =
    is_low_unit _ _ _ _ _ _ (record { r1 = c.in_ok-first.rest.now; r2 = c.in_ok-second.rest.now; r3 = c.in_ok-third.rest.now; d1 = c.in_ok-first.ensures.found; d2 = c.in_ok-second.ensures.found; d3 = c.in_ok-third.ensures.found; d4 = c.in_ok-fourth.ensures.found })
    (sym c.begins_low.ensures ∙ c.if-not-begins_low.false)
