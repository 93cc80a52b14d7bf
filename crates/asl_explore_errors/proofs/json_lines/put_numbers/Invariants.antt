use Rattle.std.proofs.Common.{◌≡◌, ◌++◌, drop}
use Rattle.std.specs.Prelude.{string_bytes}
use Rattle.std.specs.Fmt.{decimal}
use Rattle.asl_explore_errors.specs.JsonLines.{items_from}
use Rattle.asl_explore_errors.proofs.json_lines.put_numbers.Given as goal

-- the text so far and that of what is left are the whole
abbrev pub invariant-loop-index : goal.invariant-loop-index
invariant-loop-index l = string_bytes l.out ++ items_from decimal l.index (drop l.index l.numbers) ≡ string_bytes l.fn.out ++ items_from decimal 0 l.numbers
