use Rattle.std.proofs.Common.{◌≡◌, ◌-◌}
use Rattle.std.specs.Prelude.{length}
use Rattle.asl_json.specs.View.{data_of}
use Rattle.asl_exec.specs.Lacking.{failed_task}
use Rattle.asl_exec.proofs.lacking.failed_task.Given as goal

-- from the event that was come to, along the previous events that are left
abbrev pub invariant-loop : goal.invariant-loop
invariant-loop l = failed_task (length l.events - l.counter) (data_of l.output) l.id l.events ≡ failed_task (length l.events) (data_of l.output) l.fn.id l.events
