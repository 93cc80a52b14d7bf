use Rattle.std.proofs.Common.{[], ◌++◌, ◌∙◌, refl, sym, ap}
use Rattle.asl_def_fields.specs.Entries.{entries_of}
use Rattle.asl_def_shared.specs.Parts.{Slots, limits_members, completion_members}
use Rattle.asl_def_shared.proofs.Fits.{map_same}
use Rattle.asl_def_shared.proofs.Slots.{more}
use Rattle.asl_def_states.proofs.task.Task.json.Goals as goal

pub returns : goal.returns
returns c =
    let one = more [] _ _ [] _ _ _ c.in_ok-own.ensures (ap entries_of c.new.ensures.items) refl in
    let two = more [] _ _ _ _ _ _ c.in_ok-own-2.ensures one refl in
    let three = more [] _ _ _ _ _ _ c.in_ok-own-3.ensures two (sym (map_same _)) in
    let four = more [] _ _ _ _ _ _ c.in_ok-own-4.ensures three refl in
    let limits = c.in_ok-own-5.ensures ∙ ap (λ (es : Slots). es ++ limits_members c.args.self.now.limits) four in
    rw (c.in_ok-own-6.ensures ∙ ap (λ (es : Slots). es ++ completion_members c.args.self.now.completion) limits) at c.object.ensures
