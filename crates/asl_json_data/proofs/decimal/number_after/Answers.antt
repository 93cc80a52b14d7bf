use Rattle.std.proofs.Common.{◌+◌, ◌-◌, ◌*◌, get_or, drop, ◌∙◌, arith}
use Rattle.asl_json_data.proofs.Figures.{digits_at, digits_grow, value_at_step}
use Rattle.asl_json_data.proofs.decimal.number_after.Goals as goal

pub digit_value-requires : goal.digit_value-requires
digit_value-requires c = digits_at c.args.digits.now c.loop-digit.digit-index c.requires.digits c.loop-digit-test.true

pub returns-then-number-ge-AMOUNT_LIMIT : goal.returns-then-number-ge-AMOUNT_LIMIT
returns-then-number-ge-AMOUNT_LIMIT c =
    let ds = c.args.digits.now in
    let i = c.loop-digit.digit-index in
    let step = value_at_step ds i c.loop-digit.number c.loop-digit-test.true in
    let grown = digits_grow (c.loop-digit.number * 10 + (get_or ds i 0 - 48)) (drop (i + 1) ds) in
    omega (arith, step, grown, c.loop-digit.invariant.1, c.from-value.ensures, c.digit_value.ensures.value, c.if-number-ge-AMOUNT_LIMIT.true)

pub loop-digit-preserved : goal.loop-digit-preserved
loop-digit-preserved c =
    let value = c.from-value.ensures ∙ c.digit_value.ensures.value in
    (c.if-number-ge-AMOUNT_LIMIT.false, rw value (value_at_step c.args.digits.now c.loop-digit.digit-index c.loop-digit.number c.loop-digit-test.true ∙ c.loop-digit.invariant.1))
