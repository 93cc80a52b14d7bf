use Rattle.std.proofs.Common.{arith}
use Rattle.asl_time.proofs.Parts.{marked, marked_one, after_hour}
use Rattle.asl_time.proofs.calendar.read_time.Goals as goal

pub returns-in_err-minute-clause-none : goal.returns-in_err-minute-clause-none
returns-in_err-minute-clause-none c =
    rw c.from_residual-in_err-minute.ensures (λ time rest h.
    let hour = c.in_ok-hour.ensures in
    let o = after_hour c.args.bytes.now c.in_ok-hour.rest.now rest c.in_ok-hour.hour time hour.small hour.found h in
    c.in_err-minute.ensures.none time.minute (marked 58 time.second rest) o.1)

pub returns-in_err-second-clause-none : goal.returns-in_err-second-clause-none
returns-in_err-second-clause-none c =
    rw c.from_residual-in_err-second.ensures (λ time rest h.
    let hour = c.in_ok-hour.ensures in
    let minute = c.in_ok-minute.ensures in
    let o = after_hour c.args.bytes.now c.in_ok-hour.rest.now rest c.in_ok-hour.hour time hour.small hour.found h in
    let m = marked_one 58 c.in_ok-minute.minute time.minute c.in_ok-minute.rest.now (marked 58 time.second rest) c.in_ok-hour.rest.now minute.small (omega arith) minute.found o.1 in
    c.in_err-second.ensures.none time.second rest m.1)

pub returns-in_err-time-clause-none : goal.returns-in_err-time-clause-none
returns-in_err-time-clause-none c =
    rw c.from_residual-in_err-time.ensures (λ time rest h.
    let hour = c.in_ok-hour.ensures in
    let minute = c.in_ok-minute.ensures in
    let second = c.in_ok-second.ensures in
    let o = after_hour c.args.bytes.now c.in_ok-hour.rest.now rest c.in_ok-hour.hour time hour.small hour.found h in
    let m = marked_one 58 c.in_ok-minute.minute time.minute c.in_ok-minute.rest.now (marked 58 time.second rest) c.in_ok-hour.rest.now minute.small (omega arith) minute.found o.1 in
    let s = marked_one 58 c.in_ok-second.second time.second c.in_ok-second.rest.now rest c.in_ok-minute.rest.now second.small (omega arith) second.found m.1 in
    c.in_err-time.ensures.none time o.0 m.0 s.0)
