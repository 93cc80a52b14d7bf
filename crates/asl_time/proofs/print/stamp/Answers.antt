use Rattle.std.proofs.Common.{arith, refl, sym, ◌∙◌}
use Rattle.asl_time.specs.Stamp.{spelled}
use Rattle.asl_time.specs.StampText.{stamp_of}
use Rattle.asl_time.proofs.One.{one_stamp}
use Rattle.asl_time.proofs.StampTexts.{IsStampOf-stamp_of}
use Rattle.asl_time.proofs.print.stamp.Goals as goal

pub returns-clause-value : goal.returns-clause-value
returns-clause-value c = c.bytes_of.ensures.value ∙ sym (one_stamp c.args.moment (stamp_of c.args.moment) (spelled c.shown.result) (IsStampOf-stamp_of c.args.moment (omega (arith, c.shown.ensures.bound))) (record { shown = c.shown.result; at_moment = c.shown.ensures.value; text = refl }))
