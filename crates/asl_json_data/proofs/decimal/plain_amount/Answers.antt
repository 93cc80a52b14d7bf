use Rattle.std.proofs.Common.{◌*◌, ◌≤◌, ◌++◌, ℕ, sym, ap, subst, ◌∙◌}
use Rattle.asl_json_data.specs.Number.{digits_value, amount_limit}
use Rattle.asl_json_data.proofs.Figures.{value_append}
use Rattle.asl_json_data.proofs.Plainly.{digits_past, plain_beyond, plain_exact}
use Rattle.asl_json_data.proofs.decimal.plain_amount.Goals as goal

pub returns-in_err-number : goal.returns-in_err-number
returns-in_err-number c =
    let int = c.args.integer.now in
    let frac = c.args.fraction.now in
    rw c.from_residual.ensures (digits_past int frac c.requires.few (subst (λ (x : ℕ). amount_limit ≤ x) (sym (value_append 0 int frac)) c.in_err-number.ensures))

pub returns-then-amount-ge-AMOUNT_LIMIT : goal.returns-then-amount-ge-AMOUNT_LIMIT
returns-then-amount-ge-AMOUNT_LIMIT c =
    let int = c.args.integer.now in
    let frac = c.args.fraction.now in
    let same = c.in_ok-number.ensures.0 ∙ sym (value_append 0 int frac) in
    let units = ap (λ (x : ℕ). x * c.tens.result) same ∙ ap (λ (x : ℕ). digits_value 0 (int ++ frac) * x) c.tens.ensures in
    plain_beyond int frac c.requires.few (subst (λ (x : ℕ). amount_limit ≤ x) units c.if-amount-ge-AMOUNT_LIMIT.true)

pub returns : goal.returns
returns c =
    let int = c.args.integer.now in
    let frac = c.args.fraction.now in
    let same = c.in_ok-number.ensures.0 ∙ sym (value_append 0 int frac) in
    let units = ap (λ (x : ℕ). x * c.tens.result) same ∙ ap (λ (x : ℕ). digits_value 0 (int ++ frac) * x) c.tens.ensures in
    plain_exact int frac _ c.requires.few units c.if-amount-ge-AMOUNT_LIMIT.false
