use Rattle.std.proofs.Common.{◌≡◌, ◌++◌, drop}
use Rattle.asl_explore_errors.specs.JsonLines.{numbers_from}
use Rattle.asl_explore_errors.proofs.json_lines.numbers_of.Given as goal

-- the text so far and that of what is left are the whole
abbrev pub invariant-loop-index : goal.invariant-loop-index
invariant-loop-index l = l.numbers.items ++ numbers_from l.index (drop l.index l.refused) ≡ numbers_from 0 l.refused
