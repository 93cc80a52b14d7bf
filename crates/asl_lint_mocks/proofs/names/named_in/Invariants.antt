use Rattle.std.proofs.Common.{◌≡◌, ◌||◌, drop, List, ℕ}
use Rattle.std.specs.HashSet.{contains_text}
use Rattle.std.specs.List.{list_any}
use Rattle.asl_json.specs.View.{members_of}
use Rattle.asl_lint_mocks.specs.Warnings.{machine_names}
use Rattle.asl_lint_mocks.proofs.names.named_in.Given as goal

abbrev pub invariant-loop-machine : goal.invariant-loop-machine
invariant-loop-machine l = (k : List ℕ) → (contains_text l.named k || list_any (machine_names k) (members_of (drop l.machine-index l.machines))) ≡ list_any (machine_names k) (members_of l.machines)
