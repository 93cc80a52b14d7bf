use Rattle.asl_threads.specs.Workers.{IsTold}
use Rattle.asl_threads.proofs.Served.{ends}
use Rattle.asl_threads.proofs.serving.work.Goals as goal

pub returns-then-is_last : goal.returns-then-is_last
returns-then-is_last g c =
    ends (IsTold g.G.Gate.began g.G.Gate.ended (g.X.Served.turned g.C.Clock.says) c.args.worker)
    c.args.turns c.loop-turn.turn c.args.seat.now c.loop-turn.seat c.turn-is_last.new.seat c.turn-is_last.result c.if-is_last.true c.loop-turn-test.true c.loop-turn.invariant
    (record { before = c.before-in-loop-turn.ensures; turned = c.turn-is_last.ensures; after = c.after.ensures })
