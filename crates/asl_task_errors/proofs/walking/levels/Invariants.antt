use Rattle.std.proofs.Common.{◌≡◌, ◌∷◌, ◌++◌, drop}
use Rattle.asl_json.specs.View.{data_of}
use Rattle.asl_task_errors.specs.View.{levels_of}
use Rattle.asl_task_errors.proofs.walking.levels.Given as goal

abbrev pub invariant-loop-outer : goal.invariant-loop-outer
invariant-loop-outer l = levels_of l.levels.items ++ levels_of (drop l.outer-index l.around) ≡ data_of l.state ∷ levels_of l.around
