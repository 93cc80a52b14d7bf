use Rattle.std.proofs.Common.{length}
use Rattle.asl_json.specs.View.{data_of}
use Rattle.asl_path.specs.private.Opened.{Along}
use Rattle.asl_path.proofs.put.put_at.Given as goal

abbrev pub invariant-loop-step : goal.invariant-loop-step
invariant-loop-step l = Along (data_of l.fn.base) l.steps l.opened.items (data_of l.here) l.rest

abbrev pub decreases-loop-step : goal.decreases-loop-step
decreases-loop-step l = length l.rest
