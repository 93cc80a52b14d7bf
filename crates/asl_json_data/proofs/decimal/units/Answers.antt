use Rattle.std.proofs.Common.{subst, cond, sym, ap, ◌∙◌, arith, rules}
use Rattle.std.specs.Prelude.{List, ℕ, Bool, pos, neg_ℤ}
use mir.Syntax.{w128}
use Rattle.std.proofs.lemmas.Int.{to_z-of_z}
use Rattle.asl_json_data.specs.Number.{AreDigits, unsigned, fraction, exponent, is_negative}
use Rattle.asl_json_data.specs.private.Places.{IsAmount, IsBeyond}
use Rattle.asl_json_data.proofs.Figures.{numeral_parts, parts_length}
use Rattle.asl_json_data.proofs.Amounts.{over_long, over_beyond, fits_amount}
use Rattle.asl_json_data.proofs.decimal.units.Goals as goal

pub returns-then-spelled-gt-MAX_LEN : goal.returns-then-spelled-gt-MAX_LEN
returns-then-spelled-gt-MAX_LEN c = over_long c.args.spelled.now c.if-spelled-gt-MAX_LEN.true

pub amount-requires-clause-integer : goal.amount-requires-clause-integer
amount-requires-clause-integer c = subst AreDigits (sym c.parts.ensures.integer) (numeral_parts c.args.spelled.now c.requires).integer_is

pub amount-requires-clause-fraction : goal.amount-requires-clause-fraction
amount-requires-clause-fraction c = subst AreDigits (sym c.parts.ensures.fraction) (numeral_parts c.args.spelled.now c.requires).fraction_is

pub amount-requires-clause-exponent : goal.amount-requires-clause-exponent
amount-requires-clause-exponent c =
    subst (λ (t : List ℕ). AreDigits (unsigned t)) (sym c.parts.ensures.exponent) (numeral_parts c.args.spelled.now c.requires).exponent_is

pub amount-requires-clause-short : goal.amount-requires-clause-short
amount-requires-clause-short c = rw (c.parts.ensures.integer, c.parts.ensures.fraction) (omega (arith, parts_length c.args.spelled.now, c.if-spelled-gt-MAX_LEN.false))

pub returns-in_err-amount : goal.returns-in_err-amount
returns-in_err-amount c =
    let s = c.args.spelled.now in
    let parts = c.parts.ensures in
    rw c.from_residual.ensures (over_beyond s (subst (λ (t : List ℕ). IsBeyond t (fraction s) (exponent s)) parts.integer (subst (λ (t : List ℕ). IsBeyond c.parts.result.0.now t (exponent s)) parts.fraction (subst (λ (t : List ℕ). IsBeyond c.parts.result.0.now c.parts.result.1.now t) parts.exponent c.in_err-amount.ensures))))

pub returns : goal.returns
returns c =
    let s = c.args.spelled.now in
    let n = c.in_ok-amount.amount in
    let parts = c.parts.ensures in
    let exact = subst (λ (t : List ℕ). IsAmount t (fraction s) (exponent s) n) parts.integer (subst (λ (t : List ℕ). IsAmount c.parts.result.0.now t (exponent s) n) parts.fraction (subst (λ (t : List ℕ). IsAmount c.parts.result.0.now c.parts.result.1.now t n) parts.exponent c.in_ok-amount.ensures)) in
    let fits = fits_amount s n c.if-spelled-gt-MAX_LEN.false exact in
    let value = c.signed_units.ensures ∙ ap (λ (b : Bool). cond b (neg_ℤ (pos n)) (pos n)) c.is_negative.ensures ∙ ap (λ (m : ℕ). cond (is_negative s) (neg_ℤ (pos m)) (pos m)) fits.0 in
    (to_z-of_z w128 c.signed_units.result (search rules) ∙ value, fits.1)
