use Rattle.std.proofs.Common.{sym, ◌∙◌}
use Rattle.std.proofs.lemmas.Result.{err_from_is_err_and}
use Rattle.asl_json_scan.proofs.Escapes.{breaks_along, single_read, high_read, pair_read, single_range}
use Rattle.asl_json_scan.proofs.escape.by_digits.Goals as goal

pub scalar-requires : goal.scalar-requires
scalar-requires c = single_range c.in_ok-code.code (sym c.is_high.ensures ∙ c.if-not-is_high.true) c.in_ok-code.ensures.found.no_low c.in_ok-code.ensures.found.small

pub returns-then-not-is_high-clause-found : goal.returns-then-not-is_high-clause-found
returns-then-not-is_high-clause-found c = λ s. single_read s c.args.bytes.now c.in_ok-code.code _ _ c.in_ok-code.ensures.found (sym c.is_high.ensures ∙ c.if-not-is_high.true) c.scalar.ensures

pub returns-in_err-low-clause-broken : goal.returns-in_err-low-clause-broken
returns-in_err-low-clause-broken c =
    let p = err_from_is_err_and c.from_residual-in_err-low.result c.from_residual-in_err-low.ensures.1 in
    let h = c.in_ok-code.ensures.found in
    rw (p.1, p.2) (λ s. breaks_along c.in_err-low.field-0.0 _ _ (high_read s c.args.bytes.now c.in_ok-code.code _ h (sym c.is_high.ensures ∙ c.if-not-is_high.false)) (c.in_err-low.ensures.broken h.digits s))

pub returns-clause-found : goal.returns-clause-found
returns-clause-found c = λ s. pair_read s c.args.bytes.now c.in_ok-code.code _ c.in_ok-low.low _ _ c.in_ok-code.ensures.found (sym c.is_high.ensures ∙ c.if-not-is_high.false) c.in_ok-low.ensures.found c.pair.ensures
