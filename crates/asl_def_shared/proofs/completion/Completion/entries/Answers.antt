use Rattle.std.proofs.Common.{◌++◌, ◌∙◌, refl, sym, ap}
use Rattle.std.proofs.lemmas.List.{append_assoc}
use Rattle.asl_def_fields.specs.Entries.{entries_of}
use Rattle.asl_def_shared.specs.Parts.{Slots, next_members}
use Rattle.asl_def_shared.proofs.Fits.{map_same}
use Rattle.asl_def_shared.proofs.Slots.{more, more_of, if_ok}
use Rattle.asl_def_shared.proofs.completion.Completion.entries.Goals as goal

pub returns : goal.returns
returns c =
    let some = entries_of c.args.before.items in
    let one = more_of some _ _ _ _ c.in_ok-own.ensures (sym (map_same _)) in
    let two = more some _ _ _ _ _ _ c.in_ok-own-2.ensures one refl in
    let three = more some _ _ _ _ _ _ c.in_ok-own-3.ensures two refl in
    let four = more some _ _ _ _ _ _ c.in_ok-own-4.ensures three refl in
    let five = more some _ _ _ _ _ _ c.in_ok-own-5.ensures four refl in
    if_ok _ _ c.entries.result (λ es is. is ∙ ap (λ (fs : Slots). fs ++ next_members c.args.self.now.next) five ∙ append_assoc some _ _) c.entries.ensures
