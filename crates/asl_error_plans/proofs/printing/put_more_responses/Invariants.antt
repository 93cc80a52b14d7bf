use Rattle.std.proofs.Common.{◌≡◌, ◌++◌, drop}
use Rattle.std.specs.Prelude.{string_bytes}
use Rattle.std.specs.List.{flat_map}
use Rattle.asl_error_plans.specs.Printing.{more_response}
use Rattle.asl_error_plans.proofs.printing.put_more_responses.Given as goal

-- the text so far and that of what is left are the whole
abbrev pub invariant-loop-state : goal.invariant-loop-state
invariant-loop-state l = string_bytes l.out ++ flat_map (more_response l.case) (drop l.state-index l.states) ≡ string_bytes l.fn.out ++ flat_map (more_response l.case) l.states
