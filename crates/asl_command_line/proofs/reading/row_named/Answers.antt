use Rattle.std.proofs.Common.{ap}
use Rattle.std.specs.Prelude.{find}
use Rattle.std.specs.Str.{bytes_eq}
use Rattle.clap.specs.Words.{is_simple_and_free}
use Rattle.asl_arguments.specs.Grammar.{Command, app_for}
use Rattle.asl_arguments.specs.declared.arguments.CommandRow.{CommandRow}
use Rattle.asl_command_line.proofs.Rows.{met, passed, plain_here, plain_on}
use Rattle.asl_command_line.proofs.reading.row_named.Goals as goal

pub loop-row-init : goal.loop-row-init
loop-row-init c = (ap (find (λ (k : Command). bytes_eq k.name c.args.name.now)) c.commands-row-items.ensures.table, c.commands-row-items.ensures.plain)

pub loop-row-preserved : goal.loop-row-preserved
loop-row-preserved c = (
  passed c.args.name.now c.commands-row-items.result.now c.loop-row.row-index _ c.loop-row-test.true c.if-eq.ensures c.loop-row.invariant.0,
  plain_on (λ (r : CommandRow). is_simple_and_free (app_for r)) c.commands-row-items.result.now c.loop-row.row-index c.loop-row-test.true c.loop-row.invariant.1,
)

pub returns-then-eq-clause-named : goal.returns-then-eq-clause-named
returns-then-eq-clause-named c = met c.args.name.now c.commands-row-items.result.now c.loop-row.row-index _ c.loop-row-test.true c.if-eq.ensures c.loop-row.invariant.0

pub returns-then-eq-clause-plain : goal.returns-then-eq-clause-plain
returns-then-eq-clause-plain c =
    plain_here (λ (r : CommandRow). is_simple_and_free (app_for r)) c.commands-row-items.result.now c.loop-row.row-index c.loop-row-test.true c.loop-row.invariant.1 _
