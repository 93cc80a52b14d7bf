use Rattle.std.proofs.Common.{sym, ◌∙◌}
use Rattle.asl_history.proofs.Numerals.{no_number, first_digit, zero_reads, zero_alone}
use Rattle.asl_history.proofs.number.read_number.Goals as goal

pub returns-in_err-digit-clause-only : goal.returns-in_err-digit-clause-only
returns-in_err-digit-clause-only c =
    λ n rest l e h. absurd (no_number n c.args.bytes.now rest l c.in_err-digit.ensures.none e h)

pub returns-then-digit-eq0-clause-found : goal.returns-then-digit-eq0-clause-found
returns-then-digit-eq0-clause-found c =
    zero_reads c.in_ok-digit.digit c.args.bytes.now c.in_ok-digit.rest.now c.if-digit-eq0.true c.in_ok-digit.ensures.found.0

pub returns-then-digit-eq0-clause-only : goal.returns-then-digit-eq0-clause-only
returns-then-digit-eq0-clause-only c =
    λ n rest l e h. zero_alone c.in_ok-digit.digit n c.args.bytes.now rest c.in_ok-digit.rest.now c.if-digit-eq0.true l c.in_ok-digit.ensures.found.0 h

pub returns-clause-found : goal.returns-clause-found
returns-clause-found c =
    rw (first_digit c.in_ok-digit.digit c.args.bytes.now c.in_ok-digit.rest.now c.in_ok-digit.ensures.found.1 c.in_ok-digit.ensures.found.0) c.more_digits.ensures.found

pub returns-clause-only : goal.returns-clause-only
returns-clause-only c =
    λ n rest l e h. c.more_digits.ensures.only n rest l e (sym (first_digit c.in_ok-digit.digit c.args.bytes.now c.in_ok-digit.rest.now c.in_ok-digit.ensures.found.1 c.in_ok-digit.ensures.found.0) ∙ h)
