use Rattle.std.proofs.Common.{◌≡◌, ◌≤◌, ◌*◌, ◌-◌}
use Rattle.asl_time.specs.Delay.{delay_after}
use Rattle.asl_time.proofs.rate.delay.Given as goal

abbrev pub invariant-loop : goal.invariant-loop
invariant-loop l =
    (l.delay ≡ delay_after (1000 * l.interval) l.rate l.longest (l.counter - 1)) × (l.delay ≤ l.longest)
