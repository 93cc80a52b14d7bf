use Rattle.std.proofs.Common.{subst}
use Rattle.asl_mock.specs.Answers.{Case}
use Rattle.asl_explore.specs.private.Remarking.{ArePut}
use Rattle.asl_explore.specs.Remarks.{AreUnanswered}
use Rattle.asl_explore.proofs.Told.{sight-seen, stated-at, told-then, unanswered-is}
use Rattle.asl_explore.proofs.remarking.unanswered_in.Goals as goal

pub loop-state-preserved : goal.loop-state-preserved
loop-state-preserved c o s ws cases all seen =
    let ts = c.args.states.now in
    let i = c.loop-state.state-index in
    let t = c.state-item.result in
    let x = c.sight_of-sight.result in
    let before = c.loop-state.unanswered.items in
    let after = c.put_unanswered.new.out.items in
    let h = sight-seen o s ws c.args.sights.now t x (stated-at s.machine ts i t c.loop-state-test.true c.state-item.is all) seen c.sight_of-sight.ensures in
    told-then (AreUnanswered c.args.complete o s ws) ts i t before after c.loop-state-test.true c.state-item.is
    (unanswered-is o s ws t x h c.args.complete before after (subst (λ (z : Case). ArePut z t x c.args.complete before after) cases c.in_ok-put_unanswered.ensures))
    (c.loop-state.invariant o s ws cases all seen)
