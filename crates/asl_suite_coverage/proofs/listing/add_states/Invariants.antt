use Rattle.std.proofs.Common.{◌≡◌, ◌++◌, drop}
use Rattle.std.specs.Prelude.{map}
use Rattle.std.specs.List.{flat_map}
use Rattle.asl_json.specs.View.{member_of}
use Rattle.asl_suite_coverage.specs.Listed.{state_points}
use Rattle.asl_suite_coverage.proofs.listing.add_states.Given as goal

-- those so far and those of what is left are those of all
abbrev pub invariant-loop-state : goal.invariant-loop-state
invariant-loop-state l = l.points.items ++ flat_map state_points (map (λ m. member_of m.now) (drop l.state-index l.states)) ≡ l.fn.points.items ++ flat_map state_points (map (λ m. member_of m.now) l.states)
