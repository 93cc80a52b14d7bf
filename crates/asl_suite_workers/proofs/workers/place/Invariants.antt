use Rattle.std.proofs.Common.{◌≡◌, vec_len}
use Rattle.asl_suite_workers.specs.Cases.{IsRun, AreDone, IsAnswered}
use Rattle.asl_suite_workers.proofs.workers.place.Given as goal

abbrev pub invariant-items : goal.invariant-items
invariant-items g l = record {
  rest : AreDone (g.S.Cases.count l.suite) (IsRun g.G.Gate.began g.G.Gate.ended (g.S.Cases.gives l.suite)) l.list.items;
  count : vec_len l.found ≡ g.S.Cases.count l.suite;
  found : IsAnswered (IsRun g.G.Gate.began g.G.Gate.ended (g.S.Cases.gives l.suite)) l.found.items;
}

abbrev pub decreases-items : goal.decreases-items
decreases-items g l = vec_len l.list
