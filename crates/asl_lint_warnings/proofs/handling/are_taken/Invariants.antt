use Rattle.std.proofs.Common.{◌≡◌, drop}
use Rattle.std.specs.HashSet.{contains_text}
use Rattle.asl_json_data.specs.Data.{chain}
use Rattle.asl_json.specs.View.{items_of}
use Rattle.asl_lint_warnings.specs.Handlers.{are_taken}
use Rattle.asl_lint_warnings.proofs.handling.are_taken.Given as goal

abbrev pub invariant-loop-name : goal.invariant-loop-name
invariant-loop-name l = are_taken (contains_text l.listed) (chain (items_of (drop l.name-index l.names))) ≡ are_taken (contains_text l.listed) (chain (items_of l.names))
