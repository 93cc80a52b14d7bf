use Rattle.std.proofs.Common.{◌≡◌, ℕ, ◌+◌, ◌-◌, take, subst, arith}
use Rattle.asl_json_data.specs.private.Places.{EndsAboveZero}
use Rattle.asl_json_data.proofs.Figures.{ends_above}
use Rattle.asl_json_data.proofs.decimal.significant_len.Goals as goal

pub returns-else-digits-end-eq48-clause-last : goal.returns-else-digits-end-eq48-clause-last
returns-else-digits-end-eq48-clause-last c =
    let count : (c.loop-end.end - 1) + 1 ≡ c.loop-end.end = omega arith in
    subst (λ (n : ℕ). EndsAboveZero (take n c.args.digits.now)) count (ends_above c.args.digits.now (c.loop-end.end - 1) (omega arith) c.if-digits-end-eq48.false)
