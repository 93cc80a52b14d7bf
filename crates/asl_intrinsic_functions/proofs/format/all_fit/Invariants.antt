use Rattle.std.proofs.Common.{◌≡◌, drop}
use Rattle.std.specs.List.{list_all}
use Rattle.asl_intrinsic_functions.specs.Seen.{all_seen}
use Rattle.asl_intrinsic_functions.specs.Format.{is_fit}
use Rattle.asl_intrinsic_functions.proofs.format.all_fit.Given as goal

abbrev pub invariant-loop-value : goal.invariant-loop-value
invariant-loop-value l = list_all is_fit (all_seen (drop l.value-index l.values)) ≡ list_all is_fit (all_seen l.values)
