use Rattle.asl_json_scan.proofs.Escapes.{none_left, no_hex, not_hex, hex_ascii}
use Rattle.asl_json_scan.proofs.escape.digit.Goals as goal

pub returns-in_default-clause-broken : goal.returns-in_default-clause-broken
returns-in_default-clause-broken c = λ q s w. rw c.syntax.ensures (none_left q s c.args.bytes.now c.in_default.ensures.none)

pub returns-in_default-to_digit-clause-broken : goal.returns-in_default-to_digit-clause-broken
returns-in_default-to_digit-clause-broken c = λ q s w.
    rw c.syntax-in_default-to_digit.ensures (no_hex q s c.args.bytes.now c.in-Some.first c.in-Some.rest.now w c.in-Some.ensures.found (not_hex c.in-Some.first c.from.result c.from.ensures c.in_default-to_digit.ensures.value))

pub returns-clause-utf8 : goal.returns-clause-utf8
returns-clause-utf8 c = λ u. c.in-Some.ensures.utf8 (hex_ascii c.in-Some.first c.from.result c.from.ensures c.in-Some-to_digit.ensures.value.0) u
