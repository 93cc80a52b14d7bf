use Rattle.std.proofs.Common.{◌≡◌, ◌++◌, drop}
use Rattle.std.specs.Prelude.{string_bytes}
use Rattle.asl_explore_errors.specs.JsonLines.{error_object, items_from}
use Rattle.asl_explore_errors.proofs.json_lines.put_errors.Given as goal

-- the text so far and that of what is left are the whole
abbrev pub invariant-loop-index : goal.invariant-loop-index
invariant-loop-index l = string_bytes l.out ++ items_from error_object l.index (drop l.index l.plan) ≡ string_bytes l.fn.out ++ items_from error_object 0 l.plan
