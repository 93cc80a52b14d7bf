use Rattle.std.proofs.Common.{sym, subst, ◌∷◌, []}
use Rattle.asl_json_data.specs.Data.{chain}
use Rattle.asl_def_judge.specs.private.Spots.{spot_of}
use Rattle.asl_def_schema.specs.Demands.{in_range, last}
use Rattle.asl_def_schema.specs.Claims.{list_demands, is_nonempty, is_last}
use Rattle.asl_def_judge.specs.private.Firsts.{Judges}
use Rattle.asl_def_judge.proofs.Answering.{in_range_judged, last_judged, judges-append}
use Rattle.asl_def_judge.proofs.value.list_fault.Goals as goal

pub returns-in-Machines : goal.returns-in-Machines
returns-in-Machines c = subst (λ s. Judges (list_demands (spot_of c.args.spot) s (chain c.args.items.now)) c.unless.result) (sym c.in-Machines.is) (in_range_judged _ c.is_fork.result c.unless.result c.is_fork.ensures c.unless.ensures)

pub returns-in-Rules : goal.returns-in-Rules
returns-in-Rules c = subst (λ s. Judges (list_demands (spot_of c.args.spot) s (chain c.args.items.now)) c.unless-in-Rules.result) (sym c.in-Rules.is) (in_range_judged _ c.is_nonempty.result c.unless-in-Rules.result c.is_nonempty.ensures c.unless-in-Rules.ensures)

pub returns-in-InnerRules : goal.returns-in-InnerRules
returns-in-InnerRules c = subst (λ s. Judges (list_demands (spot_of c.args.spot) s (chain c.args.items.now)) c.unless-in-InnerRules.result) (sym c.in-InnerRules.is) (in_range_judged _ c.is_nonempty-in-InnerRules.result c.unless-in-InnerRules.result c.is_nonempty-in-InnerRules.ensures c.unless-in-InnerRules.ensures)

pub returns-in-ErrorNames : goal.returns-in-ErrorNames
returns-in-ErrorNames c =
    let ds = chain c.args.items.now in
    let some = in_range_judged (is_nonempty ds) c.is_nonempty-in-ErrorNames.result c.unless-in-ErrorNames.result c.is_nonempty-in-ErrorNames.ensures c.unless-in-ErrorNames.ensures in
    let ends = last_judged (is_last c.args.spot.ends ds) c.is_last.result c.unless-in-ErrorNames-2.result c.is_last.ensures c.unless-in-ErrorNames-2.ensures in
    let both = judges-append (in_range (is_nonempty ds) ∷ []) (last (is_last c.args.spot.ends ds) ∷ []) c.unless-in-ErrorNames.result c.unless-in-ErrorNames-2.result some ends in
    subst (λ s. Judges (list_demands (spot_of c.args.spot) s ds) c.sooner.result) (sym c.in-ErrorNames.is) (subst (Judges (in_range (is_nonempty ds) ∷ last (is_last c.args.spot.ends ds) ∷ [])) (sym c.sooner.ensures) both)
