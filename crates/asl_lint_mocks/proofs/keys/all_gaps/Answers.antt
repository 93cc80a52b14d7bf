use Rattle.std.proofs.Common.{◌∙◌, ap, Bool, not}
use Rattle.asl_mock.specs.Form.{unless}
use Rattle.asl_lint_mocks.specs.Places.{numbers_of}
use Rattle.asl_lint_mocks.specs.Warnings.{has_gap, gap_in}
use Rattle.asl_lint_mocks.proofs.Each.{each_more}
use Rattle.asl_lint_mocks.proofs.keys.all_gaps.Goals as goal

pub loop-i-preserved : goal.loop-i-preserved
loop-i-preserved c = each_more gap_in c.args.responses.now c.loop-i.i c.index-responses-i.result (numbers_of c.loop-i.all.items) (numbers_of c.in_ok-own.own.items) (numbers_of c.add_under.new.all.items) c.loop-i-test.true c.index-responses-i.is c.loop-i.invariant (c.in_ok-own.ensures _ ∙ ap (λ (b : Bool). unless (not b)) (c.has_gap.ensures ∙ ap has_gap c.members.ensures.listed)) c.in_ok-add_under.ensures
