use Rattle.std.proofs.Common.{ℕ, ◌+◌, ◌-◌, ◌≤◌, length, take, Option, Some, None, sym, ap, subst, ◌∙◌, arith}
use Rattle.std.specs.Prelude.{MatchOption}
use Rattle.asl_json_data.specs.Number.{digits_value, amount_limit}
use Rattle.asl_json_data.proofs.Figures.{digits_grow, digits_take, value_append}
use Rattle.asl_json_data.proofs.Amounts.{Moved, digits_beyond, moved_beyond, moved_amount}
use Rattle.asl_json_data.proofs.decimal.amount.Goals as goal

-- what is found means something else
retold : (o : Option ℕ) (A B : Type 0) (P Q : ℕ → Type 0) → (A → B) → ((n : ℕ) → P n → Q n) → MatchOption o A P → MatchOption o B Q
retold None A B P Q f g h = f h
retold (Some n) A B P Q f g h = g n h

pub number_after-requires-clause-digits : goal.number_after-requires-clause-digits
number_after-requires-clause-digits c = digits_take c.stripped-end.result.0 c.args.integer.now c.requires.integer

pub returns-in_err-front : goal.returns-in_err-front
returns-in_err-front c =
    let i = c.stripped-end.result.0 in
    let f = c.stripped-end.result.1 in
    let int = c.args.integer.now in
    let frac = c.args.fraction.now in
    let grown = digits_grow (digits_value 0 (take i int)) (take f frac) in
    let all = value_append 0 (take i int) (take f frac) in
    let large = c.in_err-front.ensures in
    rw c.from_residual.ensures (digits_beyond int frac c.args.exponent.now i f c.requires.integer c.requires.fraction c.stripped-end.ensures (omega (arith, grown, all, large)))

pub number_after-requires-2-clause-digits : goal.number_after-requires-2-clause-digits
number_after-requires-2-clause-digits c = digits_take c.stripped-end.result.1 c.args.fraction.now c.requires.fraction

pub returns-in_err-number : goal.returns-in_err-number
returns-in_err-number c =
    let i = c.stripped-end.result.0 in
    let f = c.stripped-end.result.1 in
    let int = c.args.integer.now in
    let frac = c.args.fraction.now in
    let same = sym (value_append 0 (take i int) (take f frac) ∙ ap (λ (x : ℕ). digits_value x (take f frac)) (sym c.in_ok-front.ensures.0)) in
    rw c.from_residual-in_err-number.ensures (digits_beyond int frac c.args.exponent.now i f c.requires.integer c.requires.fraction c.stripped-end.ensures (subst (λ (x : ℕ). amount_limit ≤ x) same c.in_err-number.ensures))

pub returns : goal.returns
returns c =
    let i = c.stripped-end.result.0 in
    let f = c.stripped-end.result.1 in
    let int = c.args.integer.now in
    let frac = c.args.fraction.now in
    let exp = c.args.exponent.now in
    let m = c.in_ok-number.number in
    let up = (9 + (length int - i)) + c.exponent_parts-raised.result.0 in
    let down = f + c.exponent_parts-raised.result.1 in
    let digits = c.in_ok-number.ensures.0 ∙ ap (λ (x : ℕ). digits_value x (take f frac)) c.in_ok-front.ensures.0 ∙ sym (value_append 0 (take i int) (take f frac)) in
    let g : Moved int frac exp i f m up down = record { digits = digits; up_is = ap (λ (x : ℕ). (9 + (length int - i)) + x) c.exponent_parts-raised.ensures.raised; down_is = ap (λ (x : ℕ). f + x) c.exponent_parts-raised.ensures.lowered } in
    retold c.shifted.result _ _ _ _ (λ u. moved_beyond int frac exp i f m up down c.requires.integer c.requires.fraction c.requires.short c.stripped-end.ensures g u) (λ n s. moved_amount int frac exp i f m up down n c.requires.short c.stripped-end.ensures g s) c.shifted.ensures
