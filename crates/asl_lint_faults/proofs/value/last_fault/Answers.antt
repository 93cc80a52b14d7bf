use Rattle.std.proofs.Common.{sym, subst}
use Rattle.asl_json_data.specs.Data.{chain}
use Rattle.asl_def_judge.specs.private.Spots.{spot_of}
use Rattle.asl_def_judge.specs.private.Firsts.{Judges}
use Rattle.asl_def_judge.proofs.Answering.{last_judged}
use Rattle.asl_lint_faults.specs.private.Parts.{last_demands}
use Rattle.asl_lint_faults.proofs.value.last_fault.Goals as goal

pub returns-in-ErrorNames : goal.returns-in-ErrorNames
returns-in-ErrorNames c = subst (λ s. Judges (last_demands (spot_of c.args.spot) s (chain c.args.items.now)) c.unless.result) (sym c.in-ErrorNames.is) (last_judged _ c.is_last.result c.unless.result c.is_last.ensures c.unless.ensures)
