use denote.Param.Send.{sendable}
use Rattle.asl_suite_workers.proofs.Crossing.{suite_sync}
use Rattle.asl_suite_workers.proofs.Whole.{all_reports}
use Rattle.asl_suite_workers.proofs.suites.run_suite.Goals as goal

pub run_cases-requires-sync-S : goal.run_cases-requires-sync-S
run_cases-requires-sync-S g c κs within = search (suite_sync, sendable)

pub returns-clause-reports : goal.returns-clause-reports
returns-clause-reports g c = all_reports g.G.Gate.began g.G.Gate.ended c.args.suite.now c.run_cases.result c.run_cases.ensures
