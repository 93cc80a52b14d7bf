use Rattle.std.proofs.Common.{◌≡◌, ◌++◌, drop}
use Rattle.std.specs.Prelude.{string_bytes}
use Rattle.asl_history_formats.specs.Aws.{events_from}
use Rattle.asl_history_formats.proofs.aws.put_events.Given as goal

-- the events so far and those that are left are all
abbrev pub invariant-loop-number : goal.invariant-loop-number
invariant-loop-number g l = string_bytes l.out ++ events_from (g.T.Tasks.table l.tasks) l.number (drop l.number l.events) ≡ string_bytes l.fn.out ++ events_from (g.T.Tasks.table l.fn.tasks) 0 l.events
