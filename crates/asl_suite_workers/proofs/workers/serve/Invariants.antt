use Rattle.asl_suite_workers.specs.Cases.{IsRun, AreDone}
use Rattle.asl_suite_workers.proofs.workers.serve.Given as goal

abbrev pub invariant-claims : goal.invariant-claims
invariant-claims g l = AreDone (g.S.Cases.count l.suite) (IsRun g.G.Gate.began g.G.Gate.ended (g.S.Cases.gives l.suite)) l.all.items
