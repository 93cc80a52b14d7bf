use Rattle.std.proofs.Common.{arith, ap, ◌≡◌, [], length}
use Rattle.std.proofs.lemmas.Bool.Decides.{nat_tests}
use Rattle.asl_time.proofs.Offsets.{after_signed_hour, signed_parts}
use Rattle.asl_time.proofs.offset.read_signed.Goals.{then-hour-gt23-via-then-hour-gt23, then-hour-gt23-via-else-hour-gt23+then-minute-gt59, then-hour-gt23-via-else-hour-gt23+else-minute-gt59+then-not-is_empty}
use Rattle.asl_time.proofs.offset.read_signed.Goals as goal

pub returns-in_err-minute-clause-none : goal.returns-in_err-minute-clause-none
returns-in_err-minute-clause-none c =
    rw c.from_residual-in_err-minute.ensures (λ minutes s.
    let hour = c.in_ok-hour.ensures in
    let h = after_signed_hour c.args.bytes.now c.in_ok-hour.rest.now c.args.sign c.in_ok-hour.hour minutes hour.small hour.found s in
    c.in_err-minute.ensures.none s.minute [] h.1)

pub returns-then-hour-gt23-clause-none : goal.returns-then-hour-gt23-clause-none
returns-then-hour-gt23-clause-none c minutes s =
    let hour = c.in_ok-hour.ensures in
    let minute = c.in_ok-minute.ensures in
    let p = signed_parts c.args.bytes.now c.in_ok-hour.rest.now c.in_ok-minute.rest.now c.args.sign c.in_ok-hour.hour c.in_ok-minute.minute minutes hour.small minute.small hour.found minute.found s in
    elim c.then-hour-gt23.branch [
      | then-hour-gt23-via-then-hour-gt23 w ↦ omega arith
      | then-hour-gt23-via-else-hour-gt23+then-minute-gt59 w ↦ omega arith
      | then-hour-gt23-via-else-hour-gt23+else-minute-gt59+then-not-is_empty w ↦ let e : length c.in_ok-minute.rest.now ≡ 0 = ap length p.2 in grind (arith, nat_tests)
    ]
