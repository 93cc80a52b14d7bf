use denote.Param.Send.{sendable}
use Rattle.asl_suite_orders.proofs.Reported.{in_orders_sync, all-reported}
use Rattle.asl_suite_orders.proofs.suites.run_suite_in_orders.Goals as goal

pub run_cases-requires-sync-S : goal.run_cases-requires-sync-S
run_cases-requires-sync-S g c κs within = search (in_orders_sync, sendable)

pub returns : goal.returns
returns g c = all-reported g.G.Gate.began g.G.Gate.ended (record { suite = c.args.suite; orders = c.args.orders; limit = c.args.limit }) c.run_cases.result c.run_cases.ensures
