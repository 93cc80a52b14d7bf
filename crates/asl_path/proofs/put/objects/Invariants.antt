use Rattle.std.proofs.Common.{length}
use Rattle.asl_json_data.specs.Data.{dict, no_members}
use Rattle.asl_path.specs.private.Opened.{Reaches}
use Rattle.asl_path.proofs.put.objects.Given as goal

abbrev pub invariant-loop-step : goal.invariant-loop-step
invariant-loop-step l = Reaches (dict no_members) l.steps l.opened.items (dict no_members) l.rest

abbrev pub decreases-loop-step : goal.decreases-loop-step
decreases-loop-step l = length l.rest
