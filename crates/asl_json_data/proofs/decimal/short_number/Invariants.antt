use Rattle.std.proofs.Common.{◌≡◌, drop}
use Rattle.asl_json_data.specs.Number.{digits_value}
use Rattle.asl_json_data.proofs.decimal.short_number.Given as goal

abbrev pub invariant-loop-digit : goal.invariant-loop-digit
invariant-loop-digit l = digits_value l.number (drop l.digit-index l.digits) ≡ digits_value l.front l.digits
