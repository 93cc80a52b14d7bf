use Rattle.std.proofs.Common.{◌≡◌, ◌||◌, drop, List, ℕ}
use Rattle.std.specs.HashSet.{contains_text}
use Rattle.std.specs.List.{list_any}
use Rattle.asl_json.specs.View.{members_of}
use Rattle.asl_lint_mocks.specs.Warnings.{case_names}
use Rattle.asl_lint_mocks.proofs.names.name_cases.Given as goal

abbrev pub invariant-loop-case : goal.invariant-loop-case
invariant-loop-case l = (k : List ℕ) → (contains_text l.named k || list_any (case_names k) (members_of (drop l.case-index l.cases))) ≡ (contains_text l.fn.named k || list_any (case_names k) (members_of l.cases))
