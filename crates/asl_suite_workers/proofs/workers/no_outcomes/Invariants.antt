use Rattle.std.proofs.Common.{◌≡◌, vec_len}
use Rattle.asl_suite_workers.specs.Cases.{IsRun, IsAnswered}
use Rattle.asl_suite_workers.proofs.workers.no_outcomes.Given as goal

abbrev pub invariant-places : goal.invariant-places
invariant-places g l = record { count : vec_len l.found ≡ l.counter; found : IsAnswered (IsRun g.G.Gate.began g.G.Gate.ended (g.S.Cases.gives l.suite)) l.found.items }
