use Rattle.std.specs.Prelude.{slice_get}
use Rattle.asl_suite.proofs.Agreeing.{agrees}
use Rattle.asl_suite.proofs.explaining.explain.Goals as goal

pub returns-clause-verdict : goal.returns-clause-verdict
returns-clause-verdict c = agrees c.args.suite.now (slice_get c.args.suite.now.tests.list.items c.args.number) c.reason_numbered.result c.reason_numbered.ensures
