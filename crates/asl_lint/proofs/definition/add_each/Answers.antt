use Rattle.std.specs.Prelude.{map}
use Rattle.asl_lint.specs.private.Founds.{noted}
use Rattle.asl_lint.proofs.Telling.{warnings_step}
use Rattle.asl_lint.proofs.definition.add_each.Goals as goal

pub loop-warning-preserved : goal.loop-warning-preserved
loop-warning-preserved c = warnings_step c.args.is_faulty c.args.warnings.now c.loop-warning.warning-index c.warning-item.result (map noted c.loop-warning.found.items) (map noted c.add_warning.new.found.items) _ c.loop-warning-test.true c.warning-item.is c.loop-warning.invariant c.in_ok-add_warning.ensures
