use Rattle.std.proofs.Common.{length, refl}
use Rattle.std.specs.Prelude.{slice_get}
use Rattle.std.proofs.lemmas.Option.{slice_get_read}
use Rattle.asl_suite_orders.proofs.Holding.{reported-at, plain-at, holds-at}
use Rattle.asl_suite_orders.proofs.testing.run_in_orders.Goals as goal

pub returns-clause-reported : goal.returns-clause-reported
returns-clause-reported c = reported-at c.args.orders c.args.limit c.args.suite.now (slice_get c.args.suite.now.tests.list.items c.args.number) c.index.result.now c.in_ok-driven.driven c.reported_from.result (slice_get_read c.args.suite.now.tests.list.items (length c.args.suite.now.tests.list.items) c.args.number c.index.result.now refl c.requires c.index.ensures) c.in_ok-driven.ensures c.reported_from.ensures.reported

pub returns-clause-plain : goal.returns-clause-plain
returns-clause-plain c = plain-at c.args.suite.now (slice_get c.args.suite.now.tests.list.items c.args.number) c.index.result.now c.in_ok-driven.driven c.reported_from.result (slice_get_read c.args.suite.now.tests.list.items (length c.args.suite.now.tests.list.items) c.args.number c.index.result.now refl c.requires c.index.ensures) c.in_ok-driven.ensures c.reported_from.ensures.plain

pub returns-clause-holds : goal.returns-clause-holds
returns-clause-holds c = holds-at c.args.orders c.args.limit c.args.suite.now (slice_get c.args.suite.now.tests.list.items c.args.number) c.reported_from.result (returns-clause-reported c)
