use Rattle.asl_explore.proofs.Bounding.{so-far-push}
use Rattle.asl_explore.proofs.calls.no_calls.Goals as goal

pub loop-preserved : goal.loop-preserved
loop-preserved c o s os = so-far-push o s os c.loop.calls.items c.push.new.self.items c.in_ok-none.none c.in_ok-push.ensures.items (λ outcome. c.in_ok-none.ensures o s outcome) (c.loop.invariant o s os)
