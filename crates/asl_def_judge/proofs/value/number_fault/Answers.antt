use Rattle.std.proofs.Common.{sym, subst}
use Rattle.asl_def_schema.specs.Claims.{number_demands}
use Rattle.asl_def_judge.specs.private.Firsts.{Judges}
use Rattle.asl_def_judge.proofs.Answering.{in_range_judged}
use Rattle.asl_def_judge.proofs.value.number_fault.Goals as goal

pub returns-in-FromZero : goal.returns-in-FromZero
returns-in-FromZero c = subst (λ s. Judges (number_demands s c.args.number.now) c.unless.result) (sym c.in-FromZero.is) (in_range_judged _ c.is_whole_between.result c.unless.result c.is_whole_between.ensures c.unless.ensures)

pub returns-in-FromOne : goal.returns-in-FromOne
returns-in-FromOne c = subst (λ s. Judges (number_demands s c.args.number.now) c.unless-in-FromOne.result) (sym c.in-FromOne.is) (in_range_judged _ c.is_whole_between-in-FromOne.result c.unless-in-FromOne.result c.is_whole_between-in-FromOne.ensures c.unless-in-FromOne.ensures)

pub returns-in-Rate : goal.returns-in-Rate
returns-in-Rate c = subst (λ s. Judges (number_demands s c.args.number.now) c.unless-in-Rate.result) (sym c.in-Rate.is) (in_range_judged _ c.is_rate.result c.unless-in-Rate.result c.is_rate.ensures c.unless-in-Rate.ensures)

pub returns-in-DelayLimit : goal.returns-in-DelayLimit
returns-in-DelayLimit c = subst (λ s. Judges (number_demands s c.args.number.now) c.unless-in-DelayLimit.result) (sym c.in-DelayLimit.is) (in_range_judged _ c.is_whole_between-in-DelayLimit.result c.unless-in-DelayLimit.result c.is_whole_between-in-DelayLimit.ensures c.unless-in-DelayLimit.ensures)
