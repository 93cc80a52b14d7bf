use Rattle.std.proofs.Common.{◌≡◌, arith, true, rules}
use Rattle.std.specs.Str.{all_ascii_digits}
use Rattle.asl_mock.proofs.Numerals.{no_number, a_number}
use Rattle.asl_mock.proofs.key.number.Goals as goal

pub returns-in_default : goal.returns-in_default
returns-in_default c =
    let digits : all_ascii_digits c.args.text.now ≡ true = search (rules, c.if-not-are_digits.ensures, c.are_digits.ensures, c.as_bytes.ensures.value) in
    absurd (no_number c.args.text.now c.parse.result c.in_default.field-0 c.parse.ensures.value.0 digits (omega (arith, c.if-count-eq0.false)) (omega (arith, c.if-count-gt9.false)) c.in_default.is)

pub returns : goal.returns
returns c =
    let digits : all_ascii_digits c.args.text.now ≡ true = search (rules, c.if-not-are_digits.ensures, c.are_digits.ensures, c.as_bytes.ensures.value) in
    a_number c.args.text.now c.parse.result c.in-Ok.number c.parse.ensures.value.0 digits (omega (arith, c.if-count-eq0.false)) (omega (arith, c.if-count-gt9.false)) c.in-Ok.is
