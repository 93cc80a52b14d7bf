use Rattle.std.proofs.Common.{◌≡◌, ◌||◌, drop, List, ℕ}
use Rattle.std.specs.HashSet.{contains_text}
use Rattle.asl_json_data.specs.Distinct.{has_key}
use Rattle.asl_json.specs.View.{members_of}
use Rattle.asl_lint_mocks.proofs.beside.answer_states.Given as goal

abbrev pub invariant-loop-state : goal.invariant-loop-state
invariant-loop-state l = (k : List ℕ) → (contains_text l.answered k || has_key k (members_of (drop l.state-index l.states))) ≡ (contains_text l.fn.answered k || has_key k (members_of l.states))
