use Rattle.std.proofs.Common.{◌≡◌}
use Rattle.asl_json.specs.View.{data_of}
use Rattle.asl_path.specs.private.Opened.{AreOpen, rebuilt}
use Rattle.asl_path.proofs.put.close_all.Given as goal

abbrev pub invariant-loop-outer : goal.invariant-loop-outer
invariant-loop-outer l = AreOpen l.opened.items × (rebuilt l.opened.items (data_of l.value) ≡ rebuilt l.fn.opened.items (data_of l.fn.part))

abbrev pub decreases-loop-outer : goal.decreases-loop-outer
decreases-loop-outer l = goal.left-loop-outer l
