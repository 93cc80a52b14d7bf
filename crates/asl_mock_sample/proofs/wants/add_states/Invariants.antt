use Rattle.std.proofs.Common.{◌≡◌, drop, map}
use Rattle.asl_json.specs.View.{member_of}
use Rattle.asl_mock_sample.specs.View.{known_of}
use Rattle.asl_mock_sample.specs.Wants.{with_states}
use Rattle.asl_mock_sample.proofs.wants.add_states.Given as goal

abbrev pub invariant-loop-state : goal.invariant-loop-state
invariant-loop-state l = with_states (known_of l.table) (map (λ m. member_of m.now) (drop l.state-index l.states)) ≡ with_states (known_of l.fn.table) (map (λ m. member_of m.now) l.states)
