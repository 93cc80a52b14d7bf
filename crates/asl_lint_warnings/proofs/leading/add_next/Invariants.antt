use Rattle.std.proofs.Common.{◌≡◌, ◌++◌, drop}
use Rattle.std.specs.Prelude.{map}
use Rattle.asl_json_data.specs.Data.{chain}
use Rattle.asl_json.specs.View.{items_of}
use Rattle.asl_lint_warnings.specs.Graphs.{next_of}
use Rattle.asl_lint_warnings.proofs.leading.add_next.Given as goal

-- the names so far and those of what is left are all
abbrev pub invariant-loop-part : goal.invariant-loop-part
invariant-loop-part l = map (λ x. x.now) l.names.items ++ next_of (chain (items_of (drop l.part-index l.parts))) ≡ map (λ x. x.now) l.fn.names.items ++ next_of (chain (items_of l.parts))
