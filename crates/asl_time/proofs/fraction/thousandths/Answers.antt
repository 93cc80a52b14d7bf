use Rattle.std.proofs.Common.{arith}
use Rattle.asl_time.proofs.Rounding.{rounded_down, rounded_up}
use Rattle.asl_time.proofs.fraction.thousandths.Goals as goal

pub returns-then-are_zeros-clause-value : goal.returns-then-are_zeros-clause-value
returns-then-are_zeros-clause-value c =
    let t = c.args.fraction.now in
    let a = c.value_of-in-len3-up.ensures.value in
    let b = c.value_of-in-len3-up-2.ensures.value in
    let d = c.value_of-in-len3-up-3.ensures.value in
    rw (a, b, d) (rounded_down t (omega arith) (c.are_zeros.ensures.0 c.if-are_zeros.true))

pub returns-else-are_zeros-clause-value : goal.returns-else-are_zeros-clause-value
returns-else-are_zeros-clause-value c =
    let t = c.args.fraction.now in
    let a = c.value_of-in-len3-up.ensures.value in
    let b = c.value_of-in-len3-up-2.ensures.value in
    let d = c.value_of-in-len3-up-3.ensures.value in
    rw (a, b, d) (rounded_up t (omega arith) c.requires (λ h. cc (c.are_zeros.ensures.1 h)))
