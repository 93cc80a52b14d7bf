use Rattle.std.proofs.Common.{◌≡◌, ◌||◌, drop, List, ℕ}
use Rattle.std.specs.HashSet.{contains_text}
use Rattle.std.specs.List.{list_any}
use Rattle.asl_json.specs.View.{members_of}
use Rattle.asl_lint_mocks.specs.Warnings.{is_text}
use Rattle.asl_lint_mocks.proofs.names.name_states.Given as goal

abbrev pub invariant-loop-state : goal.invariant-loop-state
invariant-loop-state l = (k : List ℕ) → (contains_text l.named k || list_any (λ s. is_text k s.1) (members_of (drop l.state-index l.states))) ≡ (contains_text l.fn.named k || list_any (λ s. is_text k s.1) (members_of l.states))
