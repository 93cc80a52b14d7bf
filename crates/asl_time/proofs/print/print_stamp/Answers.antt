use Rattle.std.specs.Prelude.{string_bytes}
use Rattle.std.proofs.Common.{sym, arith}
use Rattle.std.proofs.lemmas.Result.{IfOk-weaker}
use Rattle.asl_time.proofs.Back.{stamp_back}
use Rattle.asl_time.specs.StampText.{stamp_of}
use Rattle.asl_time.proofs.One.{one_stamp}
use Rattle.asl_time.proofs.Forms.{form_of_stamp, stamp_of_form}
use Rattle.asl_time.proofs.StampTexts.{IsStampOf-stamp_of}
use Rattle.asl_time.proofs.print.print_stamp.Goals as goal

pub returns-clause-text : goal.returns-clause-text
returns-clause-text c = IfOk-weaker c.spell.result _ _ (λ t e. record { shown = c.shown.result; at_moment = c.shown.ensures.value; text = e }) c.spell.ensures

pub returns-clause-one : goal.returns-clause-one
returns-clause-one c = IfOk-weaker c.spell.result _ _ (λ t e u s. one_stamp c.args.moment u (string_bytes t) s (record { shown = c.shown.result; at_moment = c.shown.ensures.value; text = e })) c.spell.ensures

pub returns-clause-back : goal.returns-clause-back
returns-clause-back c = IfOk-weaker c.spell.result _ _ (λ t e. stamp_back c.args.moment (string_bytes t) c.shown.ensures.bound (record { shown = c.shown.result; at_moment = c.shown.ensures.value; text = e })) c.spell.ensures

pub returns-clause-stamp : goal.returns-clause-stamp
returns-clause-stamp c = IfOk-weaker c.spell.result _ _ (λ t e. sym (one_stamp c.args.moment (stamp_of c.args.moment) (string_bytes t) (IsStampOf-stamp_of c.args.moment (omega (arith, c.shown.ensures.bound))) (record { shown = c.shown.result; at_moment = c.shown.ensures.value; text = e }))) c.spell.ensures

pub returns-clause-form : goal.returns-clause-form
returns-clause-form c = IfOk-weaker c.spell.result _ _ (λ t e. form_of_stamp (string_bytes t) c.shown.result e) c.spell.ensures

pub returns-clause-only : goal.returns-clause-only
returns-clause-only c = IfOk-weaker c.spell.result _ _ (λ t e u f h. one_stamp c.args.moment u (string_bytes t) (stamp_of_form u c.args.moment f h) (record { shown = c.shown.result; at_moment = c.shown.ensures.value; text = e })) c.spell.ensures
