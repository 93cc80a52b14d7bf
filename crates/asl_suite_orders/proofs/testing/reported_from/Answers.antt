use Rattle.std.proofs.Common.{◌∙◌, sym}
use Rattle.asl_suite_orders.proofs.Holding.{searched-by, all-plain}
use Rattle.asl_suite_orders.proofs.testing.reported_from.Goals as goal

pub returns-clause-reported : goal.returns-clause-reported
returns-clause-reported c = searched-by c.args.orders c.args.limit c.args.suite.now c.args.test.now c.in_ok-own.own c.args.driven c.in-Some.setup c.counts.result c.in_ok-explored.explored c.judged.result (sym c.in_ok-setup.ensures ∙ c.in-Some.is) c.in_ok-own.ensures c.counts.ensures c.in_ok-explored.ensures c.judged.ensures

pub returns-clause-plain : goal.returns-clause-plain
returns-clause-plain c = all-plain c.args.test.now c.args.driven c.judged.result (sym c.is_passed.ensures ∙ c.if-not-is_passed.false) (sym c.is_some.ensures ∙ c.if-is_some.false)
