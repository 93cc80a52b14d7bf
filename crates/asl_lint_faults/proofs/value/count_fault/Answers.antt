use Rattle.std.proofs.Common.{sym, subst}
use Rattle.asl_json_data.specs.Data.{chain}
use Rattle.asl_def_judge.specs.private.Firsts.{Judges}
use Rattle.asl_def_judge.proofs.Answering.{in_range_judged}
use Rattle.asl_lint_faults.specs.private.Parts.{count_demands}
use Rattle.asl_lint_faults.proofs.value.count_fault.Goals as goal

pub returns-in-Machines : goal.returns-in-Machines
returns-in-Machines c = subst (λ s. Judges (count_demands s (chain c.args.items.now)) c.unless.result) (sym c.in-Machines.is) (in_range_judged _ c.is_fork.result c.unless.result c.is_fork.ensures c.unless.ensures)

pub returns-in-Rules : goal.returns-in-Rules
returns-in-Rules c = subst (λ s. Judges (count_demands s (chain c.args.items.now)) c.unless-in-Rules.result) (sym c.in-Rules.is) (in_range_judged _ c.is_nonempty.result c.unless-in-Rules.result c.is_nonempty.ensures c.unless-in-Rules.ensures)

pub returns-in-InnerRules : goal.returns-in-InnerRules
returns-in-InnerRules c = subst (λ s. Judges (count_demands s (chain c.args.items.now)) c.unless-in-InnerRules.result) (sym c.in-InnerRules.is) (in_range_judged _ c.is_nonempty-in-InnerRules.result c.unless-in-InnerRules.result c.is_nonempty-in-InnerRules.ensures c.unless-in-InnerRules.ensures)

pub returns-in-ErrorNames : goal.returns-in-ErrorNames
returns-in-ErrorNames c = subst (λ s. Judges (count_demands s (chain c.args.items.now)) c.unless-in-ErrorNames.result) (sym c.in-ErrorNames.is) (in_range_judged _ c.is_nonempty-in-ErrorNames.result c.unless-in-ErrorNames.result c.is_nonempty-in-ErrorNames.ensures c.unless-in-ErrorNames.ensures)
