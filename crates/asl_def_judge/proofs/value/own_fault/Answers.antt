use Rattle.std.proofs.Common.{sym, subst, ap, refl, ◌∙◌, ◌∷◌, [], not}
use Rattle.asl_json.specs.View.{data_of}
use Rattle.asl_def_judge.specs.private.Spots.{spot_of}
use Rattle.asl_def_schema.specs.Demands.{alone}
use Rattle.asl_def_schema.specs.Claims.{spot_demands, form_demand, value_demands, demands}
use Rattle.asl_def_judge.specs.private.Firsts.{Judges, sooner}
use Rattle.asl_def_judge.proofs.Answering.{alone_judged, judges-append}
use Rattle.asl_def_judge.proofs.value.own_fault.Goals as goal

pub returns : goal.returns
returns c =
    let d = data_of c.args.value.now in
    let p = spot_of c.args.spot in
    let s = c.args.sort in
    let single = alone_judged (not c.args.spot.doubled) _ c.unless-alone.result refl c.unless-alone.ensures in
    let rest = judges-append (form_demand s d ∷ []) (value_demands p s d) c.form_fault-typed.result c.in_ok-fits.fits c.form_fault-typed.ensures c.in_ok-fits.ensures in
    let all = judges-append (alone (not c.args.spot.doubled) ∷ []) _ c.unless-alone.result _ single (judges-append (spot_demands p s) (form_demand s d ∷ value_demands p s d) c.spot_fault-known.result _ c.spot_fault-known.ensures rest) in
    subst (Judges (demands p s d)) (sym (c.sooner-3.ensures ∙ ap (sooner c.unless-alone.result) (c.sooner-2.ensures ∙ ap (sooner c.spot_fault-known.result) c.sooner.ensures))) all
