use Rattle.std.proofs.Common.{false}
use Rattle.asl_threads.specs.Workers.{Take, IsTold}
use Rattle.asl_threads.proofs.serving.work.Given as goal

abbrev pub invariant-loop-turn : goal.invariant-loop-turn
invariant-loop-turn g l = Take (IsTold g.G.Gate.began g.G.Gate.ended (g.X.Served.turned g.C.Clock.says) l.fn.worker) l.turn l.fn.seat l.seat false
