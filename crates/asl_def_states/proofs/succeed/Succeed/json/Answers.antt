use Rattle.std.proofs.Common.{[], refl, ap}
use Rattle.asl_def_fields.specs.Entries.{entries_of}
use Rattle.asl_def_shared.proofs.Slots.{more}
use Rattle.asl_def_states.proofs.succeed.Succeed.json.Goals as goal

pub returns : goal.returns
returns c =
    let one = more [] _ _ [] _ _ _ c.in_ok-own.ensures (ap entries_of c.new.ensures.items) refl in
    let two = more [] _ _ _ _ _ _ c.in_ok-own-2.ensures one refl in
    rw two at c.object.ensures
