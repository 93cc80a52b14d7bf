use Rattle.std.proofs.Common.{◌≡◌, length}
use Rattle.asl_rules.specs.private.Steps.{behind_nots, denied_by}
use Rattle.asl_rules.proofs.reading.behind_nots.Given as goal

abbrev pub invariant-loop-others : goal.invariant-loop-others
invariant-loop-others l = (behind_nots l.opens ≡ behind_nots l.fn.opens) × (denied_by l.opens l.operand ≡ denied_by l.fn.opens l.fn.operand)

abbrev pub decreases-loop-others : goal.decreases-loop-others
decreases-loop-others l = length l.opens
