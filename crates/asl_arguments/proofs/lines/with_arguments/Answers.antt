use Rattle.std.proofs.Common.{ap, arith, map}
use Rattle.std.specs.Prelude.{fold}
use Rattle.clap.specs.Words.{App, app_of, rule_of, with_rule}
use Rattle.asl_arguments.specs.Grammar.{app_for, rule_for}
use Rattle.asl_arguments.proofs.Rules.{one_more}
use Rattle.asl_arguments.proofs.lines.with_arguments.Goals as goal

pub loop-argument-init : goal.loop-argument-init
loop-argument-init c = ap (λ (a : App). fold with_rule a (map rule_for c.args.row.now.arguments.now)) c.in_ok-command.ensures

pub loop-argument-preserved : goal.loop-argument-preserved
loop-argument-preserved c =
    one_more c.args.row.now.arguments.now c.loop-argument.argument-index _ (app_of c.loop-argument.command) (app_of c.in_ok-command-2.command) (app_for c.args.row.now) (rule_of c.argument_of.result)
    (omega arith) c.argument_of.ensures.rule (c.in_ok-command-2.ensures.shape c.argument_of.ensures.global) c.loop-argument.invariant
