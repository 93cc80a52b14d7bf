use Rattle.std.proofs.Common.{◌≤◌, ℕ, sym, ap, subst, arith}
use Rattle.asl_json_data.specs.Number.{digits_value, amount_limit}
use Rattle.asl_json_data.proofs.Figures.{digits_grow}
use Rattle.asl_json_data.proofs.decimal.digits_number.Goals as goal

pub returns-in_err-front : goal.returns-in_err-front
returns-in_err-front c =
    let grown = digits_grow (digits_value 0 c.args.integer.now) c.args.fraction.now in
    let large = c.in_err-front.ensures in
    rw c.from_residual.ensures (omega (arith, grown, large))
