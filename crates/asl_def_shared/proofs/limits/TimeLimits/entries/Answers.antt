use Rattle.std.proofs.Common.{refl}
use Rattle.asl_def_fields.specs.Entries.{entries_of}
use Rattle.asl_def_shared.proofs.Slots.{more, more_of, if_ok}
use Rattle.asl_def_shared.proofs.limits.TimeLimits.entries.Goals as goal

pub returns : goal.returns
returns c =
    let some = entries_of c.args.before.items in
    let three = more some _ _ _ _ _ _ c.in_ok-own-3.ensures (more some _ _ _ _ _ _ c.in_ok-own-2.ensures (more_of some _ _ _ _ c.in_ok-own.ensures refl) refl) refl in
    if_ok _ _ c.with_optional-4.result (λ es is. more some _ _ _ _ _ _ is three refl) c.with_optional-4.ensures
