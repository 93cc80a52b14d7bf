use Rattle.std.proofs.Common.{◌≡◌, ◌++◌, drop}
use Rattle.std.specs.List.{flat_map}
use Rattle.asl_error_plans.specs.Spans.{earlier}
use Rattle.asl_error_plans.proofs.putting.earlier.Given as goal

-- those so far and those of what is left are all
abbrev pub invariant-loop-ranged : goal.invariant-loop-ranged
invariant-loop-ranged l = l.out.items ++ flat_map (earlier l.number) (drop l.ranged-index l.answers) ≡ flat_map (earlier l.number) l.answers
