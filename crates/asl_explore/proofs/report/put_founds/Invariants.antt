use Rattle.std.proofs.Common.{◌≡◌, ◌+◌, ◌++◌, drop}
use Rattle.std.specs.Prelude.{string_bytes}
use Rattle.asl_explore.specs.Reports.{founds_text}
use Rattle.asl_explore.proofs.report.put_founds.Given as goal

-- the lines so far and those of what is left are those of all
abbrev pub invariant-loop-index : goal.invariant-loop-index
invariant-loop-index l = string_bytes l.out ++ founds_text l.explored (l.index + 1) (drop l.index l.explored.found.items) ≡ string_bytes l.fn.out ++ founds_text l.explored 1 l.explored.found.items
