use Rattle.std.proofs.Common.{◌≡◌, ◌++◌, drop}
use Rattle.std.specs.Prelude.{map}
use Rattle.std.specs.List.{flat_map}
use Rattle.asl_json.specs.View.{member_of}
use Rattle.asl_mock_sample.specs.Calls.{own_call}
use Rattle.asl_mock_sample.proofs.tasks.add_calls.Given as goal

-- the Tasks so far and those of what is left are all
abbrev pub invariant-loop-state : goal.invariant-loop-state
invariant-loop-state l = l.calls.items ++ flat_map own_call (map (λ m. member_of m.now) (drop l.state-index l.states)) ≡ l.fn.calls.items ++ flat_map own_call (map (λ m. member_of m.now) l.states)
