use Rattle.std.proofs.Common.{◌≡◌, ◌++◌}
use Rattle.std.specs.Vec.Iter.{into_iter_items}
use Rattle.asl_run_state.specs.private.Telling.{placed}
use Rattle.asl_run_state.proofs.world.placed.Given as goal

abbrev pub invariant-loop-draft : goal.invariant-loop-draft
invariant-loop-draft l = l.placed.items ++ placed l.place (into_iter_items l.draft-iterator) ≡ placed l.place l.fn.drafts
