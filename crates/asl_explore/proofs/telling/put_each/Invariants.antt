use Rattle.std.proofs.Common.{◌≡◌, ◌++◌, drop}
use Rattle.std.specs.Prelude.{string_bytes}
use Rattle.std.specs.List.{flat_map}
use Rattle.asl_explore.specs.Telling.{state_calls}
use Rattle.asl_explore.proofs.telling.put_each.Given as goal

-- the lines so far and those of what is left are those of all
abbrev pub invariant-loop-state : goal.invariant-loop-state
invariant-loop-state l = string_bytes l.out ++ flat_map (state_calls l.calls) (drop l.state-index l.states) ≡ string_bytes l.fn.out ++ flat_map (state_calls l.calls) l.states
