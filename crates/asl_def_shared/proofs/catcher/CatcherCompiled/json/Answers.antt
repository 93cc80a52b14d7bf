use Rattle.std.proofs.Common.{[], refl, ap}
use Rattle.std.specs.Prelude.{Some}
use Rattle.asl_def_fields.specs.Entries.{entries_of}
use Rattle.asl_def_shared.proofs.Slots.{more}
use Rattle.asl_def_shared.proofs.catcher.CatcherCompiled.json.Goals as goal

pub returns : goal.returns
returns c =
    let one = more [] _ _ [] _ _ _ c.in_ok-entries.ensures (ap entries_of c.new.ensures.items) refl in
    let two = more [] _ _ _ _ _ _ c.in_ok-entries-2.ensures one refl in
    let three = more [] _ _ _ _ _ _ c.in_ok-entries-3.ensures two refl in
    rw (more [] _ _ _ _ _ _ c.in_ok-entries-4.ensures three (ap Some c.in_ok-next.ensures)) at c.object.ensures
