use Rattle.std.proofs.Common.{◌≡◌}
use Rattle.asl_json_spans.specs.private.Marks.{behind_some}
use Rattle.asl_json_spans.proofs.finding.behind_some.Given as goal

abbrev pub invariant-loop-left : goal.invariant-loop-left
invariant-loop-left l = behind_some l.left l.rest ≡ behind_some l.count l.nodes

abbrev pub decreases-loop-left : goal.decreases-loop-left
decreases-loop-left l = l.left
