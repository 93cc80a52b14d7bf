use Rattle.std.proofs.Common.{◌≡◌, ◌<◌, drop}
use Rattle.asl_json_data.specs.Number.{digits_value}
use Rattle.asl_json_data.proofs.decimal.exponent_size.Given as goal

abbrev pub invariant-loop-digit : goal.invariant-loop-digit
invariant-loop-digit l = (l.size < 1000) × (digits_value l.size (drop l.digit-index l.digits) ≡ digits_value 0 l.digits)
