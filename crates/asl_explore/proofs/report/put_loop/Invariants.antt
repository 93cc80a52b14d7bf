use Rattle.std.proofs.Common.{◌≡◌, ◌∷◌, [], ◌++◌, drop}
use Rattle.std.specs.Prelude.{string_bytes}
use Rattle.std.specs.List.{flat_map}
use Rattle.asl_explore.specs.Reports.{place_word, loop_line}
use Rattle.asl_explore.proofs.report.put_loop.Given as goal

-- the places so far and those of what is left are those of all
abbrev pub invariant-loop-at : goal.invariant-loop-at
invariant-loop-at l = string_bytes l.out ++ (flat_map place_word (drop l.at-index l.steps) ++ 10 ∷ []) ≡ string_bytes l.fn.out ++ loop_line l.steps
