use Rattle.std.proofs.Common.{arith}
use Rattle.std.proofs.lemmas.Int.{ints}
use Rattle.asl_time.specs.Timestamp.{plus, minus}
use Rattle.asl_time.proofs.Offsets.{no_offset}
use Rattle.asl_time.proofs.offset.read_offset.Goals as goal

pub returns-in-Some-clause-found : goal.returns-in-Some-clause-found
returns-in-Some-clause-found c = plus c.in-Some.minutes c.in-Some.ensures.found (omega (arith, ints))

pub returns-in_err-minutes-clause-none : goal.returns-in_err-minutes-clause-none
returns-in_err-minutes-clause-none c =
    rw c.from_residual.ensures (λ ahead o. no_offset c.args.bytes.now ahead (λ e. let h = rw (e, c.as_slice.ensures) at c.eq.ensures in cc) c.in_default.ensures.none c.in_err-minutes.ensures.none o)

pub returns-clause-found : goal.returns-clause-found
returns-clause-found c = minus c.in_ok-minutes.minutes c.in_ok-minutes.ensures.found (omega (arith, ints))
