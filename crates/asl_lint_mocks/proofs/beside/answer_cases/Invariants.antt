use Rattle.std.proofs.Common.{◌≡◌, ◌||◌, drop, List, ℕ}
use Rattle.std.specs.HashSet.{contains_text}
use Rattle.std.specs.List.{list_any}
use Rattle.asl_json.specs.View.{members_of}
use Rattle.asl_lint_mocks.specs.Beside.{case_answers}
use Rattle.asl_lint_mocks.proofs.beside.answer_cases.Given as goal

abbrev pub invariant-loop-case : goal.invariant-loop-case
invariant-loop-case l = (k : List ℕ) → (contains_text l.answered k || list_any (case_answers k) (members_of (drop l.case-index l.cases))) ≡ (contains_text l.fn.answered k || list_any (case_answers k) (members_of l.cases))
