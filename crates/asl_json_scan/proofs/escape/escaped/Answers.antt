use Rattle.std.proofs.Common.{◌∙◌}
use Rattle.asl_json_scan.specs.private.Chars.{slash}
use Rattle.asl_json_data.specs.Text.{letter_u}
use Rattle.asl_json_scan.proofs.Escapes.{breaks_along, breaks_through, reads_through, none_left, not_first, to_unit, letter_read, no_letter, letter_ascii}
use Rattle.asl_json_scan.proofs.escape.escaped.Goals as goal

pub returns-in-Some-clause-found : goal.returns-in-Some-clause-found
returns-in-Some-clause-found c = reads_through c.by_digits.result _ _ (λ x h s. to_unit s c.args.bytes.now _ c.in-Some.ensures.found ∙ h s) c.by_digits.ensures.found

pub returns-in-Some-clause-broken : goal.returns-in-Some-clause-broken
returns-in-Some-clause-broken c = breaks_through c.by_digits.result _ _ (λ e h s. breaks_along e _ _ (to_unit s c.args.bytes.now _ c.in-Some.ensures.found) (h s)) c.by_digits.ensures.broken

pub returns-in_default-first_byte-clause-broken : goal.returns-in_default-first_byte-clause-broken
returns-in_default-first_byte-clause-broken c = λ s. rw c.syntax.ensures (none_left slash s c.args.bytes.now c.in_default-first_byte.ensures.none)

pub returns-in_default-by_letter-clause-broken : goal.returns-in_default-by_letter-clause-broken
returns-in_default-by_letter-clause-broken c = λ s.
    rw c.syntax-in_default-by_letter.ensures (no_letter s c.args.bytes.now c.in-Some-first_byte.first _ c.in-Some-first_byte.ensures.found (not_first letter_u c.in-Some-first_byte.first c.args.bytes.now _ c.in_default.ensures.none c.in-Some-first_byte.ensures.found) c.in_default-by_letter.ensures)

pub returns-clause-found : goal.returns-clause-found
returns-clause-found c = λ s. letter_read s c.args.bytes.now c.in-Some-first_byte.first _ c.in-Some-by_letter.character c.in-Some-first_byte.ensures.found c.in-Some-by_letter.ensures.0 c.in-Some-by_letter.ensures.1

pub returns-clause-utf8 : goal.returns-clause-utf8
returns-clause-utf8 c = c.in-Some-first_byte.ensures.utf8 (letter_ascii c.in-Some-first_byte.first c.in-Some-by_letter.ensures.0)
