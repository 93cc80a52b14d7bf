use Rattle.std.specs.Vec.Iter.{into_iter_items}
use Rattle.asl_def.proofs.Builds.{push_new, push_within, push_step}
use Rattle.asl_def.proofs.build.push_all.Goals as goal

pub push-requires-clause-new : goal.push-requires-clause-new
push-requires-clause-new c = push_new _ c.loop-row.table _ (into_iter_items c.next.new.self) c.in-Some.row c.loop-row.invariant c.in-Some.ensures.steps.0

pub push-requires-clause-within : goal.push-requires-clause-within
push-requires-clause-within c = push_within _ c.loop-row.table _ (into_iter_items c.next.new.self) c.in-Some.row c.loop-row.invariant c.in-Some.ensures.steps.0

pub loop-row-preserved : goal.loop-row-preserved
loop-row-preserved c = push_step _ c.loop-row.table c.push.new.self _ (into_iter_items c.next.new.self) c.in-Some.row c.loop-row.invariant c.in-Some.ensures.steps.0 c.in_ok-push.ensures.ok
