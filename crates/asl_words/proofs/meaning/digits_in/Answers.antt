use Rattle.std.proofs.Common.{◌≡◌, ◌∙◌, ap, sym, true, rules}
use Rattle.std.specs.Prelude.{None, if◌then◌else◌}
use Rattle.std.specs.Str.{all_ascii_digits}
use Rattle.asl_words.specs.Asked.{number_in}
use Rattle.asl_words.proofs.Numbers.{unread, whole_word}
use Rattle.asl_words.proofs.meaning.digits_in.Goals as goal

pub returns-in-Ok : goal.returns-in-Ok
returns-in-Ok c =
    let t = c.args.digits.now in
    let digits : all_ascii_digits t ≡ true = search (rules, c.if-not-are_digits.ensures, c.are_digits.ensures, c.as_bytes.ensures.value) in
    whole_word t c.parse.result c.parse.ensures.value.0 c.in-Ok.number c.in-Ok.is
    ∙ sym (ap (λ b. if b then number_in 0 18446744073709551615 t else None) digits)

pub returns-in-Err : goal.returns-in-Err
returns-in-Err c =
    let t = c.args.digits.now in
    let digits : all_ascii_digits t ≡ true = search (rules, c.if-not-are_digits.ensures, c.are_digits.ensures, c.as_bytes.ensures.value) in
    unread 0 18446744073709551615 t c.parse.result c.parse.ensures.value.0 c.in-Err.field-0 c.in-Err.is
    ∙ sym (ap (λ b. if b then number_in 0 18446744073709551615 t else None) digits)
