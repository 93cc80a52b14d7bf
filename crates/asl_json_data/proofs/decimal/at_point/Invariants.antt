use Rattle.std.proofs.Common.{length, take, ◌-◌, ◌≤◌}
use Rattle.asl_json_data.specs.Number.{is_point}
use Rattle.asl_json_data.proofs.Figures.{Lacks}
use Rattle.asl_json_data.proofs.decimal.at_point.Given as goal

abbrev pub invariant-loop-end : goal.invariant-loop-end
invariant-loop-end l = Lacks is_point (take l.end l.text) × (l.end ≤ length l.text)

abbrev pub decreases-loop-end : goal.decreases-loop-end
decreases-loop-end l = length l.text - l.end
