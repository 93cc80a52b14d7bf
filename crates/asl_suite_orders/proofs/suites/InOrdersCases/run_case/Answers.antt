use Rattle.asl_suite_orders.proofs.Reported.{both-at}
use Rattle.asl_suite_orders.proofs.suites.InOrdersCases.run_case.Goals as goal

pub returns : goal.returns
returns c = both-at c.args.self.now.orders c.args.self.now.limit c.args.self.now.suite.now c.args.number c.run_in_orders.result c.run_in_orders.ensures.reported c.run_in_orders.ensures.holds
