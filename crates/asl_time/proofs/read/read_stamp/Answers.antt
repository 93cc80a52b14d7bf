use Rattle.std.proofs.Common.{rules, FitsSigned, w64}
use Rattle.std.proofs.lemmas.Int.{to_z-of_z}
use Rattle.asl_time.proofs.FieldMoments.{read_is}
use Rattle.asl_time.proofs.Moments.{both}
use Rattle.asl_time.proofs.Readings.{behind_date, dated, timed, fractioned, read, timestamp}
use Rattle.asl_time.proofs.read.read_stamp.Goals as goal

pub returns-in_err-date-clause-only : goal.returns-in_err-date-clause-only
returns-in_err-date-clause-only c m h =
    let t = c.args.text.now in
    absurd (c.in_err-date.ensures.none h.shown.date (behind_date t m h) (rw c.as_bytes.ensures.value (dated t m h)))

pub returns-in_err-time-clause-only : goal.returns-in_err-time-clause-only
returns-in_err-time-clause-only c m h =
    let t = c.args.text.now in
    let date = rw c.as_bytes.ensures.value at c.in_ok-date.ensures.found in
    absurd (c.in_err-time.ensures.none h.shown.time _ (timed t m h _ _ date))

pub returns-in_err-thousandths-clause-only : goal.returns-in_err-thousandths-clause-only
returns-in_err-thousandths-clause-only c m h =
    let t = c.args.text.now in
    let date = rw c.as_bytes.ensures.value at c.in_ok-date.ensures.found in
    let time = c.in_ok-time.ensures.found in
    absurd (c.in_err-thousandths.ensures.none h.thousandths h.zone h.ahead h.zone_offset (fractioned t m h _ _ _ _ date time))

pub returns-in_err-ahead-clause-only : goal.returns-in_err-ahead-clause-only
returns-in_err-ahead-clause-only c m h =
    let t = c.args.text.now in
    let date = rw c.as_bytes.ensures.value at c.in_ok-date.ensures.found in
    let time = c.in_ok-time.ensures.found in
    let fraction = c.in_ok-thousandths.ensures.one h.thousandths h.zone h.ahead h.zone_offset (fractioned t m h _ _ _ _ date time) in
    absurd (c.in_err-ahead.ensures.none h.ahead (rw (← fraction.1) h.zone_offset))

pub returns-clause-found : goal.returns-clause-found
returns-clause-found c =
    let t = c.args.text.now in
    let date = rw c.as_bytes.ensures.value at c.in_ok-date.ensures.found in
    let time = c.in_ok-time.ensures.found in
    let fraction = c.in_ok-thousandths.ensures.found in
    let offset = c.in_ok-ahead.ensures.found in
    let local : FitsSigned w64 c.to_second.result = search rules in
    let ahead : FitsSigned w64 c.in_ok-ahead.ahead = search rules in
    both c.moment_at.result _ _ _ c.moment_at.ensures.found c.moment_at.ensures.bound (λ m e b. timestamp t _ _ _ _ _ _ m _ date time fraction offset (rw (to_z-of_z w64 c.to_second.result local, to_z-of_z w64 c.in_ok-ahead.ahead ahead, c.to_second.ensures.value) at e) b)

pub returns-clause-only : goal.returns-clause-only
returns-clause-only c m h =
    let t = c.args.text.now in
    let date = rw c.as_bytes.ensures.value at c.in_ok-date.ensures.found in
    let time = c.in_ok-time.ensures.found in
    let fraction = c.in_ok-thousandths.ensures.one h.thousandths h.zone h.ahead h.zone_offset (fractioned t m h _ _ _ _ date time) in
    let moment = read t m h _ _ _ _ c.in_ok-ahead.ahead c.in_ok-thousandths.thousandths date time fraction.0 (rw fraction.1 c.in_ok-ahead.ensures.found) in
    let local : FitsSigned w64 c.to_second.result = search rules in
    let ahead : FitsSigned w64 c.in_ok-ahead.ahead = search rules in
    c.moment_at.ensures.only m h.in_range (rw (to_z-of_z w64 c.to_second.result local, to_z-of_z w64 c.in_ok-ahead.ahead ahead, c.to_second.ensures.value) moment)

pub returns-in_err-date-clause-value : goal.returns-in_err-date-clause-value
returns-in_err-date-clause-value c = read_is c.from_residual.result c.args.text.now (rw c.from_residual.ensures tt) (returns-in_err-date-clause-only c)

pub returns-in_err-time-clause-value : goal.returns-in_err-time-clause-value
returns-in_err-time-clause-value c = read_is c.from_residual-in_err-time.result c.args.text.now (rw c.from_residual-in_err-time.ensures tt) (returns-in_err-time-clause-only c)

pub returns-in_err-thousandths-clause-value : goal.returns-in_err-thousandths-clause-value
returns-in_err-thousandths-clause-value c = read_is c.from_residual-in_err-thousandths.result c.args.text.now (rw c.from_residual-in_err-thousandths.ensures tt) (returns-in_err-thousandths-clause-only c)

pub returns-in_err-ahead-clause-value : goal.returns-in_err-ahead-clause-value
returns-in_err-ahead-clause-value c = read_is c.from_residual-in_err-ahead.result c.args.text.now (rw c.from_residual-in_err-ahead.ensures tt) (returns-in_err-ahead-clause-only c)

pub returns-clause-value : goal.returns-clause-value
returns-clause-value c = read_is _ _ (returns-clause-found c) (returns-clause-only c)
