use Rattle.std.proofs.Common.{refl, not}
use Rattle.asl_json.specs.View.{data_of}
use Rattle.asl_def_schema.specs.Demands.{alone}
use Rattle.asl_def_judge.proofs.Answering.{alone_judged}
use Rattle.asl_def_judge.specs.private.Spots.{spot_of}
use Rattle.asl_lint_faults.proofs.Telling.{own_told}
use Rattle.asl_lint_faults.proofs.value.own_faults.Goals as goal

pub returns : goal.returns
returns c =
    let d = data_of c.args.value.now in
    let single = alone_judged (not c.args.spot.doubled) _ c.unless.result refl c.unless.ensures in
    own_told (spot_of c.args.spot) c.args.sort d (alone (not c.args.spot.doubled)) c.new-told.result.items c.tell.new.told.items c.tell-2.new.told.items c.tell-3.new.told.items c.tell_value.new.told.items c.unless.result c.spot_fault.result c.form_fault.result c.new-told.ensures.items single c.in_ok-tell.ensures c.spot_fault.ensures c.in_ok-tell-2.ensures c.form_fault.ensures c.in_ok-tell-3.ensures c.in_ok-tell_value.ensures
