use Rattle.std.proofs.Common.{arith}
use Rattle.asl_session.proofs.Commanding.{few-digits}
use Rattle.asl_session.proofs.script_file.read_count.Goals as goal

pub overflow_mul-number : goal.overflow_mul-number
overflow_mul-number c =
    let few = few-digits c.loop-digit.number c.loop-digit.digit-index _ c.loop-digit.invariant.small c.loop-digit-test.true c.if-text-gt9.false in
    omega (arith, few)

pub overflow_add-number : goal.overflow_add-number
overflow_add-number c =
    let few = few-digits c.loop-digit.number c.loop-digit.digit-index _ c.loop-digit.invariant.small c.loop-digit-test.true c.if-text-gt9.false in
    omega (arith, few, c.from.ensures, c.if-digit-gt57.false)
