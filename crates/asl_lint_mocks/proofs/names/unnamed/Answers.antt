use Rattle.std.proofs.Common.{◌∙◌, ap}
use Rattle.std.specs.HashSet.{contains_text}
use Rattle.asl_mock.specs.Form.{unless}
use Rattle.asl_lint_mocks.specs.Places.{numbers_of}
use Rattle.asl_lint_mocks.proofs.Each.{each_more}
use Rattle.asl_lint_mocks.proofs.names.unnamed.Goals as goal

pub loop-i-preserved : goal.loop-i-preserved
loop-i-preserved c = each_more (λ m. unless (contains_text c.args.named.now m.0)) c.args.responses.now c.loop-i.i c.index-responses-i.result (numbers_of c.loop-i.all.items) (numbers_of c.in_ok-own.own.items) (numbers_of c.add_under.new.all.items) c.loop-i-test.true c.index-responses-i.is c.loop-i.invariant (c.in_ok-own.ensures _ ∙ ap unless (c.contains.ensures ∙ ap (contains_text c.args.named.now) c.as_str.ensures)) c.in_ok-add_under.ensures
