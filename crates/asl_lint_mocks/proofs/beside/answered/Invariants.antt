use Rattle.std.proofs.Common.{◌≡◌, ◌||◌, drop, List, ℕ}
use Rattle.std.specs.Prelude.{◌&&◌, option_map}
use Rattle.std.specs.HashSet.{contains_text}
use Rattle.std.specs.List.{list_any}
use Rattle.asl_json.specs.View.{members_of}
use Rattle.asl_lint_mocks.specs.Beside.{is_meant, machine_answers}
use Rattle.asl_lint_mocks.proofs.beside.answered.Given as goal

abbrev pub invariant-loop-member : goal.invariant-loop-member
invariant-loop-member l = (k : List ℕ) → (contains_text l.answered k || list_any (λ m. is_meant (option_map (λ n. n.now) l.machine) (members_of l.machines) m.0 && machine_answers k m) (members_of (drop l.member-index l.machines))) ≡ list_any (λ m. is_meant (option_map (λ n. n.now) l.machine) (members_of l.machines) m.0 && machine_answers k m) (members_of l.machines)
