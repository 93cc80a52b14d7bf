use Rattle.std.specs.Prelude.{map}
use Rattle.std.specs.HashSet.{contains_text}
use Rattle.asl_lint.specs.private.Founds.{noted}
use Rattle.asl_lint.proofs.Mocking.{answers_more}
use Rattle.asl_lint.proofs.mocks.add_without_answer.Goals as goal

pub loop-state-preserved : goal.loop-state-preserved
loop-state-preserved c = answers_more (contains_text c.args.answered.now) c.args.states.now c.loop-state.state-index c.state-item.result c.lacks_answer.result (map noted c.loop-state.found.items) (map noted c.add_if.new.found.items) _ c.loop-state-test.true c.state-item.is c.loop-state.invariant c.lacks_answer.ensures c.in_ok-add_if.ensures
