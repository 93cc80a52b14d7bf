use Rattle.std.proofs.Common.{sym, ◌∙◌, arith}
use Rattle.asl_history.proofs.Numerals.{ends_here, too_long, next_reads}
use Rattle.asl_history.proofs.number.+more_digits.Goals as goal

pub returns-in_default-clause-only : goal.returns-in_default-clause-only
returns-in_default-clause-only t c =
    λ n rest l e h. ends_here c.args.number n c.args.bytes.now rest c.requires.few l c.in_default.ensures.none e h

pub returns-then-number-ge100000000-clause-only : goal.returns-then-number-ge100000000-clause-only
returns-then-number-ge100000000-clause-only t c =
    λ n rest l e h. too_long c.args.number n c.in-Some.digit c.args.bytes.now rest c.in-Some.rest.now (omega arith) c.requires.few l c.in-Some.ensures.found.1 c.in-Some.ensures.found.0 e h

pub returns-clause-found : goal.returns-clause-found
returns-clause-found t c =
    rw (next_reads c.args.number c.in-Some.digit c.args.bytes.now c.in-Some.rest.now c.requires.positive c.requires.few c.in-Some.ensures.found.1 c.in-Some.ensures.found.0) c.more_digits.ensures.found

pub returns-clause-only : goal.returns-clause-only
returns-clause-only t c =
    λ n rest l e h. c.more_digits.ensures.only n rest l e (sym (next_reads c.args.number c.in-Some.digit c.args.bytes.now c.in-Some.rest.now c.requires.positive c.requires.few c.in-Some.ensures.found.1 c.in-Some.ensures.found.0) ∙ h)
