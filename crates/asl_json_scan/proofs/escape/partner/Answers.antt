use Rattle.std.proofs.Common.{◌∙◌}
use Rattle.asl_json_scan.proofs.Escapes.{breaks_along, breaks_through, reads_through, to_slash, to_low, is_partner}
use Rattle.asl_json_scan.proofs.escape.partner.Goals as goal

pub returns-in_default-after_byte-clause-broken : goal.returns-in_default-after_byte-clause-broken
returns-in_default-after_byte-clause-broken c = λ q s. breaks_along c.other_escape.result _ _ (to_slash q s c.args.bytes.now _ c.in-Some.ensures.found) (c.other_escape.ensures q s)

pub returns-clause-broken : goal.returns-clause-broken
returns-clause-broken c =
    breaks_through c.low_unit.result _ _ (λ e h q s. breaks_along e _ _ (to_slash q s c.args.bytes.now _ c.in-Some.ensures.found ∙ to_low q s c.in-Some.escape.now _ c.in-Some-after_byte.ensures.found) (h q s)) c.low_unit.ensures.broken

pub returns-clause-found : goal.returns-clause-found
returns-clause-found c =
    reads_through c.low_unit.result _ _ (λ x h. is_partner c.args.bytes.now c.in-Some.escape.now c.in-Some-after_byte.digits.now x.0 x.1.now c.in-Some.ensures.found c.in-Some-after_byte.ensures.found h) c.low_unit.ensures.found
