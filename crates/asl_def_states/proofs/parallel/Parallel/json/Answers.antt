use Rattle.std.proofs.Common.{[], ◌++◌, ◌∙◌, refl, sym, ap}
use Rattle.std.specs.Prelude.{Some, codes}
use Rattle.asl_json_data.specs.Data.{list, chain}
use Rattle.asl_def_fields.specs.Entries.{entries_of}
use Rattle.asl_def_shared.specs.Parts.{Slots, object, common_members, completion_members}
use Rattle.asl_def_shared.proofs.Fits.{map_same}
use Rattle.asl_def_shared.proofs.Slots.{more, if_ok}
use Rattle.asl_def_states.proofs.parallel.Parallel.json.Goals as goal

pub returns : goal.returns
returns c =
    let one = more [] _ _ [] _ _ _ c.in_ok-own.ensures (ap entries_of c.new.ensures.items) refl in
    let two = more [] _ _ _ _ _ _ c.in_ok-own-2.ensures one (sym (map_same _)) in
    if_ok _ _ c.object.result (λ j is t h. is ∙ ap (λ (es : Slots). object (common_members (codes "Parallel") c.args.self.now.common ++ es)) (c.in_ok-own-4.ensures ∙ ap (λ (es : Slots). es ++ completion_members c.args.self.now.completion) (more [] _ _ _ _ _ _ c.in_ok-own-3.ensures two (ap (λ ds. Some (list (chain ds))) h)))) c.object.ensures
