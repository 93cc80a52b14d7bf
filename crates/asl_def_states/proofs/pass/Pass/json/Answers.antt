use Rattle.std.proofs.Common.{[], ◌++◌, ◌∙◌, refl, sym, ap}
use Rattle.asl_def_fields.specs.Entries.{entries_of}
use Rattle.asl_def_shared.specs.Parts.{Slots, next_members}
use Rattle.asl_def_shared.proofs.Fits.{map_same}
use Rattle.asl_def_shared.proofs.Slots.{more}
use Rattle.asl_def_states.proofs.pass.Pass.json.Goals as goal

pub returns : goal.returns
returns c =
    let one = more [] _ _ [] _ _ _ c.in_ok-own.ensures (ap entries_of c.new.ensures.items) refl in
    let two = more [] _ _ _ _ _ _ c.in_ok-own-2.ensures one (sym (map_same _)) in
    let three = more [] _ _ _ _ _ _ c.in_ok-own-3.ensures two refl in
    let four = more [] _ _ _ _ _ _ c.in_ok-own-4.ensures three refl in
    let five = more [] _ _ _ _ _ _ c.in_ok-own-5.ensures four refl in
    rw (c.in_ok-own-6.ensures ∙ ap (λ (es : Slots). es ++ next_members c.args.self.now.next) five) at c.object.ensures
