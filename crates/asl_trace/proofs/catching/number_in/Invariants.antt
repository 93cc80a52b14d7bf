use Rattle.std.proofs.Common.{◌≡◌, ◌+◌, drop}
use Rattle.asl_json_data.specs.Data.{chain}
use Rattle.asl_def_shared.specs.Parts.{catcher_object, catcher_objects}
use Rattle.asl_trace_lines.specs.Handling.{number_of}
use Rattle.asl_trace.proofs.catching.number_in.Given as goal

-- none of those so far is equal to it
abbrev pub invariant-loop-number : goal.invariant-loop-number
invariant-loop-number l = number_of (catcher_object l.decides) (chain (catcher_objects l.all)) ≡ l.number + number_of (catcher_object l.decides) (chain (catcher_objects (drop l.number l.all)))
