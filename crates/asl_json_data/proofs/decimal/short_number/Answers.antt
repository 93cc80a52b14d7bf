use Rattle.std.proofs.Common.{◌∙◌}
use Rattle.asl_json_data.proofs.Figures.{digits_at, value_at_step}
use Rattle.asl_json_data.proofs.decimal.short_number.Goals as goal

pub digit_value-requires : goal.digit_value-requires
digit_value-requires c = digits_at c.args.digits.now c.loop-digit.digit-index c.requires c.loop-digit-test.true

pub loop-digit-preserved : goal.loop-digit-preserved
loop-digit-preserved c =
    let value = c.from.ensures ∙ c.digit_value.ensures.value in
    rw value (value_at_step c.args.digits.now c.loop-digit.digit-index c.loop-digit.number c.loop-digit-test.true ∙ c.loop-digit.invariant)
