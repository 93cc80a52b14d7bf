use Rattle.std.proofs.Common.{◌≡◌, ◌<◌, drop}
use Rattle.asl_json_data.specs.Number.{digits_value, amount_limit}
use Rattle.asl_json_data.proofs.decimal.number_after.Given as goal

abbrev pub invariant-loop-digit : goal.invariant-loop-digit
invariant-loop-digit l = (l.number < amount_limit) × (digits_value l.number (drop l.digit-index l.digits) ≡ digits_value l.front l.digits)
