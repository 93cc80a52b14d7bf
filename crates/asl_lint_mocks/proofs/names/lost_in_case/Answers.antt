use Rattle.std.proofs.Common.{◌∙◌, ap}
use Rattle.asl_mock.specs.Form.{unless}
use Rattle.asl_mock.specs.Faults.{lost_name}
use Rattle.asl_lint_mocks.specs.Lost.{is_known}
use Rattle.asl_lint_mocks.specs.Places.{numbers_of}
use Rattle.asl_lint_mocks.proofs.Each.{each_more}
use Rattle.asl_lint_mocks.proofs.names.lost_in_case.Goals as goal

pub loop-i-preserved : goal.loop-i-preserved
loop-i-preserved c = λ rs h. each_more (lost_name (is_known rs)) c.args.states.now c.loop-i.i c.index-states-i.result (numbers_of c.loop-i.all.items) (numbers_of c.in_ok-own.own.items) (numbers_of c.add_under.new.all.items) c.loop-i-test.true c.index-states-i.is (c.loop-i.invariant rs h) (c.in_ok-own.ensures _ ∙ ap unless (c.is_known.ensures rs h)) c.in_ok-add_under.ensures
