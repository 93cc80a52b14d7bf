use Rattle.std.proofs.Common.{ap, arith}
use Rattle.std.specs.Prelude.{is_none}
use Rattle.asl_exec.specs.Probes.{setup_of, world_of}
use Rattle.asl_explore.proofs.Reaching.{least-of, none-of, open-more, reckoned-none, reckoned-some}
use Rattle.asl_explore.proofs.order.soonest.Goals as goal
use Rattle.asl_explore.proofs.order.soonest.Goals.{in-Some, in_default}

pub returns-clause-least : goal.returns-clause-least
returns-clause-least c e = least-of (setup_of c.args.probe.now) (world_of c.args.probe.now) c.args.turns.now c.loop-turn.least c.loop-turn.turn-index e (omega (arith, c.loop-turn-test.false)) c.loop-turn.invariant.reckoned

pub returns-clause-none : goal.returns-clause-none
returns-clause-none c e none = none-of (setup_of c.args.probe.now) (world_of c.args.probe.now) c.args.turns.now c.loop-turn.least c.loop-turn.turn-index e (omega (arith, c.loop-turn-test.false)) none c.loop-turn.invariant.reckoned

pub loop-turn-preserved : goal.loop-turn-preserved
loop-turn-preserved c =
    let s = setup_of c.args.probe.now in
    let w = world_of c.args.probe.now in
    let turn = c.turn-item.result in
    let i = c.loop-turn.turn-index in
    let a = c.loop-turn.least in
    let inv = c.loop-turn.invariant in
    elim c.match-chance.branch [
      | in-Some b ↦
          let may = rw b.in-Some.is at c.chance.ensures.some in
          rw b.least-is (record {
            may = open-more s w turn.place a b.earlier.result b.in-Some.moment may inv.may b.earlier.ensures.one;
            reckoned = reckoned-some s w c.args.turns.now i turn a b.earlier.result b.in-Some.moment c.loop-turn-test.true c.turn-item.is may.1 b.earlier.ensures.before b.earlier.ensures.before_best inv.reckoned;
          })
      | in_default b ↦
          rw b.least-is (record {
            may = inv.may;
            reckoned = reckoned-none s w c.args.turns.now i turn a c.loop-turn-test.true c.turn-item.is (c.chance.ensures.none (ap is_none b.in_default.is)) inv.reckoned;
          })
    ]
