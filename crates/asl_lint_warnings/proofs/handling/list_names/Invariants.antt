use Rattle.std.proofs.Common.{◌≡◌, ◌||◌, drop, List, ℕ}
use Rattle.std.specs.HashSet.{contains_text}
use Rattle.asl_json_data.specs.Data.{chain}
use Rattle.asl_json.specs.View.{items_of}
use Rattle.asl_lint_warnings.specs.Handlers.{has_text}
use Rattle.asl_lint_warnings.proofs.handling.list_names.Given as goal

-- the names so far and those that are left are all
abbrev pub invariant-loop-name : goal.invariant-loop-name
invariant-loop-name l = (n : List ℕ) → (contains_text l.listed n || has_text n (chain (items_of (drop l.name-index l.name-items)))) ≡ (contains_text l.fn.listed n || has_text n (chain (items_of l.name-items)))
