use Rattle.std.proofs.Common.{[], ap}
use Rattle.asl_def_fields.specs.Entries.{entries_of}
use Rattle.asl_def_shared.proofs.Slots.{more}
use Rattle.asl_def_states.proofs.fail.Fail.json.Goals as goal

pub returns : goal.returns
returns c =
    let one = more [] _ _ [] _ _ _ c.in_ok-own.ensures (ap entries_of c.new.ensures.items) c.in_ok-error.ensures in
    let two = more [] _ _ _ _ _ _ c.in_ok-own-2.ensures one c.in_ok-error_path.ensures in
    let three = more [] _ _ _ _ _ _ c.in_ok-own-3.ensures two c.in_ok-cause.ensures in
    rw (more [] _ _ _ _ _ _ c.in_ok-own-4.ensures three c.in_ok-cause_path.ensures) at c.object.ensures
