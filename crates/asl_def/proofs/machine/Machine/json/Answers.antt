use Rattle.std.proofs.Common.{[], List, refl, ap}
use Rattle.std.specs.Prelude.{Some}
use Rattle.asl_json_data.specs.Data.{dict, pairs}
use Rattle.asl_def_schema.specs.Canon.{Named}
use Rattle.asl_def_fields.specs.Entries.{entries_of}
use Rattle.asl_def_shared.proofs.Slots.{more}
use Rattle.asl_def.proofs.machine.Machine.json.Goals as goal

pub returns : goal.returns
returns c =
    let one = more [] _ _ [] _ _ _ c.in_ok-own.ensures (ap entries_of c.new.ensures.items) refl in
    let two = more [] _ _ _ _ _ _ c.in_ok-own-2.ensures one refl in
    let three = more [] _ _ _ _ _ _ c.in_ok-own-3.ensures two refl in
    let four = more [] _ _ _ _ _ _ c.in_ok-own-4.ensures three (ap Some c.in_ok-start.ensures) in
    let five = more [] _ _ _ _ _ _ c.in_ok-own-5.ensures four refl in
    let six = more [] _ _ _ _ _ _ c.in_ok-own-6.ensures five (ap (λ (ms : List Named). Some (dict (pairs ms))) c.in_ok-states.ensures) in
    rw (← c.parts-parts.ensures.shown) (rw six at c.object.ensures)
