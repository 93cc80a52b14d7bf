use Rattle.std.proofs.Common.{◌≡◌, drop}
use Rattle.std.specs.Prelude.{fold, map}
use Rattle.clap.specs.Words.{app_of, with_rule}
use Rattle.asl_arguments.specs.Grammar.{app_for, rule_for}
use Rattle.asl_arguments.proofs.lines.with_arguments.Given as goal

abbrev pub invariant-loop-argument : goal.invariant-loop-argument
invariant-loop-argument l = fold with_rule (app_of l.command) (map rule_for (drop l.argument-index l.argument-items)) ≡ app_for l.row
