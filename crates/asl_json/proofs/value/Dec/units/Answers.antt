use Rattle.std.proofs.Common.{◌≡◌, false, subst, sym, ap, ◌∙◌}
use Rattle.asl_json_data.specs.Number.{IsNumeral, is_over}
use Rattle.asl_json.proofs.value.Dec.units.Goals as goal

pub units-requires : goal.units-requires
units-requires c = subst IsNumeral (sym (c.as_bytes.ensures.value ∙ c.spelling.ensures)) c.is_number.ensures.0

pub unreachable-requires : goal.unreachable-requires
unreachable-requires c =
    let fits = ap is_over (c.as_bytes.ensures.value ∙ c.spelling.ensures) ∙ c.is_number.ensures.1 in
    let over = c.in-None.ensures in
    absurd (let clash = sym over ∙ fits in cc)
