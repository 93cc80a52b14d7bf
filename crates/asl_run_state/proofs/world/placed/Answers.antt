use Rattle.std.proofs.Common.{ap, append_assoc}
use Rattle.asl_run_state.specs.private.Telling.{placed}
use Rattle.asl_run_state.proofs.world.placed.Goals as goal

pub loop-draft-init : goal.loop-draft-init
loop-draft-init c = rw (c.new-placed.ensures.items, c.into_iter-draft-iterator.ensures.into_iter_gives.0) (ap (placed c.args.place.now) c.drafts.view_is)

pub loop-draft-preserved : goal.loop-draft-preserved
loop-draft-preserved c = rw (c.in_ok-push.ensures.items, c.in_ok-try_clone.ensures, append_assoc) (rw c.in-Some.ensures.steps.0 at c.loop-draft.invariant)
