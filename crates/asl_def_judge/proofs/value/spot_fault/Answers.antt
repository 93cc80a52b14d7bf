use Rattle.std.proofs.Common.{refl, sym, subst}
use Rattle.std.specs.Prelude.{Some, false}
use Rattle.asl_def_judge.specs.private.Spots.{spot_of}
use Rattle.asl_def_schema.specs.Claims.{spot_demands}
use Rattle.asl_def_schema.specs.Demands.{supported, known}
use Rattle.asl_def_judge.specs.private.Firsts.{Judges}
use Rattle.asl_def_judge.proofs.Answering.{in_range_judged, within_judged, judges_broken}
use Rattle.asl_def_judge.proofs.Machines.{machine_spot}
use Rattle.asl_def_judge.proofs.value.spot_fault.Goals as goal

pub returns-in-State : goal.returns-in-State
returns-in-State c = subst (λ s. Judges (spot_demands (spot_of c.args.spot) s) c.unless.result) (sym c.in-State.is) (in_range_judged _ c.is_name.result c.unless.result c.is_name.ensures c.unless.ensures)

pub returns-in-Machine : goal.returns-in-Machine
returns-in-Machine c = subst (λ qs. Judges qs c.unless-in-Machine.result) (sym (machine_spot (spot_of c.args.spot) c.args.sort c.in-Machine.is)) (within_judged _ _ c.unless-in-Machine.result refl c.unless-in-Machine.ensures)

pub returns-in-Unsupported : goal.returns-in-Unsupported
returns-in-Unsupported c = subst (λ s. Judges (spot_demands (spot_of c.args.spot) s) (Some _)) (sym c.in-Unsupported.is) (judges_broken (supported false) _ (λ h. absurd cc) refl)

pub returns-in-Unknown : goal.returns-in-Unknown
returns-in-Unknown c = subst (λ s. Judges (spot_demands (spot_of c.args.spot) s) (Some _)) (sym c.in-Unknown.is) (judges_broken known _ (λ h. h) refl)
