use Rattle.std.proofs.Common.{◌≡◌, ◌||◌, drop, List, ℕ}
use Rattle.std.specs.HashSet.{contains_text}
use Rattle.asl_lint.specs.Mocks.{is_state}
use Rattle.asl_lint.proofs.mocks.names_of.Given as goal

abbrev pub invariant-loop-state : goal.invariant-loop-state
invariant-loop-state l = (k : List ℕ) → (contains_text l.names k || is_state (drop l.state-index l.states) k) ≡ is_state l.states k
