use Rattle.std.proofs.Common.{arith, ◌+◌, ◌*◌, ◌-◌, sym, ◌∙◌}
use Rattle.asl_time.proofs.Delays.{start, more, still}
use Rattle.asl_time.proofs.rate.delay.Goals as goal

pub loop-init : goal.loop-init
loop-init c =
    let zero = start (1000 * c.args.interval) c.args.rate c.longest_of-longest.result in
    (omega (arith, zero), omega arith)

pub returns-then-next-delay-clause-value : goal.returns-then-next-delay-clause-value
returns-then-next-delay-clause-value c =
    let longest = c.longest_of-longest in
    let ends = still (1000 * c.args.interval) c.args.rate longest.result (c.loop.counter - 1) (c.args.k - 1) c.loop.delay (omega arith) c.loop.invariant.0 (sym c.next-next.ensures ∙ c.if-next-delay.true) in
    rw (← longest.ensures.value) ends

pub loop-preserved : goal.loop-preserved
loop-preserved c =
    let longer = more (1000 * c.args.interval) c.args.rate c.longest_of-longest.result (c.loop.counter - 1) (c.loop.counter + 1 - 1) c.loop.delay (omega arith) c.loop.invariant.0 in
    (c.next-next.ensures ∙ longer, omega arith)
