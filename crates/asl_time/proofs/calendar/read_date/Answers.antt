use Rattle.std.proofs.Common.{arith}
use Rattle.asl_time.proofs.Parts.{marked, marked_one, after_year, year_from_abs, day_small}
use Rattle.asl_time.proofs.calendar.read_date.Goals as goal

pub returns-in_err-month-clause-none : goal.returns-in_err-month-clause-none
returns-in_err-month-clause-none c =
    rw c.from_residual-in_err-month.ensures (λ date rest h.
    let year = c.in_ok-year.ensures in
    let y = after_year c.args.bytes.now c.in_ok-year.rest.now rest c.in_ok-year.year date year.small year.found h in
    c.in_err-month.ensures.none date.month (marked 45 date.day rest) y.1)

pub returns-in_err-day-clause-none : goal.returns-in_err-day-clause-none
returns-in_err-day-clause-none c =
    rw c.from_residual-in_err-day.ensures (λ date rest h.
    let year = c.in_ok-year.ensures in
    let month = c.in_ok-month.ensures in
    let y = after_year c.args.bytes.now c.in_ok-year.rest.now rest c.in_ok-year.year date year.small year.found h in
    let m = marked_one 45 c.in_ok-month.month date.month c.in_ok-month.rest.now (marked 45 date.day rest) c.in_ok-year.rest.now month.small (omega arith) month.found y.1 in
    c.in_err-day.ensures.none date.day rest m.1)

pub returns-in_err-date-clause-none : goal.returns-in_err-date-clause-none
returns-in_err-date-clause-none c =
    rw c.from_residual-in_err-date.ensures (λ date rest h.
    let year = c.in_ok-year.ensures in
    let month = c.in_ok-month.ensures in
    let day = c.in_ok-day.ensures in
    let y = after_year c.args.bytes.now c.in_ok-year.rest.now rest c.in_ok-year.year date year.small year.found h in
    let m = marked_one 45 c.in_ok-month.month date.month c.in_ok-month.rest.now (marked 45 date.day rest) c.in_ok-year.rest.now month.small (omega arith) month.found y.1 in
    let d = marked_one 45 c.in_ok-day.day date.day c.in_ok-day.rest.now rest c.in_ok-month.rest.now day.small (day_small date) day.found m.1 in
    c.in_err-date.ensures.none date (year_from_abs date.year c.in_ok-year.year h.after_zero y.0) m.0 d.0)
