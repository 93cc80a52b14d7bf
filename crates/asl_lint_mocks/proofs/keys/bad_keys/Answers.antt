use Rattle.std.proofs.Common.{◌∙◌, ap}
use Rattle.std.specs.Prelude.{is_some}
use Rattle.asl_mock.specs.Form.{unless}
use Rattle.asl_mock.specs.Key.{span_in}
use Rattle.asl_mock.specs.Faults.{bad_key}
use Rattle.asl_lint_mocks.specs.Places.{numbers_of}
use Rattle.asl_lint_mocks.proofs.Each.{each_more}
use Rattle.asl_lint_mocks.proofs.keys.bad_keys.Goals as goal

pub loop-i-preserved : goal.loop-i-preserved
loop-i-preserved c = each_more bad_key c.args.answers.now c.loop-i.i c.index-answers-i.result (numbers_of c.loop-i.all.items) (numbers_of c.in_ok-own.own.items) (numbers_of c.add_under.new.all.items) c.loop-i-test.true c.index-answers-i.is c.loop-i.invariant (c.in_ok-own.ensures _ ∙ ap unless (c.is_some.ensures ∙ ap (λ o. is_some o) (c.span_in.ensures.value ∙ ap span_in c.as_str.ensures))) c.in_ok-add_under.ensures
