use Rattle.std.proofs.Common.{[], ◌++◌, ◌∙◌, refl, ap}
use Rattle.asl_def_fields.specs.Entries.{entries_of}
use Rattle.asl_def_shared.specs.Parts.{Slots, next_members}
use Rattle.asl_def_shared.proofs.Slots.{more}
use Rattle.asl_def_states.proofs.wait.Wait.json.Goals as goal

pub returns : goal.returns
returns c =
    let one = more [] _ _ [] _ _ _ c.in_ok-own.ensures (ap entries_of c.new.ensures.items) refl in
    let two = more [] _ _ _ _ _ _ c.in_ok-own-2.ensures one c.in_ok-seconds.ensures in
    let three = more [] _ _ _ _ _ _ c.in_ok-own-3.ensures two c.in_ok-seconds_path.ensures in
    let four = more [] _ _ _ _ _ _ c.in_ok-own-4.ensures three c.in_ok-timestamp.ensures in
    let five = more [] _ _ _ _ _ _ c.in_ok-own-5.ensures four c.in_ok-timestamp_path.ensures in
    let six = more [] _ _ _ _ _ _ c.in_ok-own-6.ensures five refl in
    rw (c.in_ok-own-7.ensures ∙ ap (λ (es : Slots). es ++ next_members c.args.self.now.next) six) at c.object.ensures
