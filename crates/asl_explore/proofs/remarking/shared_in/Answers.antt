use Rattle.std.proofs.Common.{subst, IfSome}
use Rattle.asl_mock.specs.Answers.{Case}
use Rattle.asl_explore.specs.private.Remarking.{IsUnlike}
use Rattle.asl_explore.specs.Remarks.{AreOneBelow, IsShared}
use Rattle.asl_explore.proofs.Told.{named-more, shared-not, shared-so, sight-seen, stated-at}
use Rattle.asl_explore.proofs.remarking.shared_in.Goals as goal

pub loop-state-preserved : goal.loop-state-preserved
loop-state-preserved c o s ws cases all seen =
    let ts = c.args.states.now in
    let i = c.loop-state.state-index in
    let t = c.state-item.result in
    let x = c.sight_of.result in
    let h = sight-seen o s ws c.args.sights.now t x (stated-at s.machine ts i t c.loop-state-test.true c.state-item.is all) seen c.sight_of.ensures in
    named-more (IsShared o s ws) ts i t c.loop-state.names.items c.put_name.new.out.items c.in_ok-wanted.wanted c.loop-state-test.true c.state-item.is
    (λ e. shared-so o s ws t x h (subst (λ (z : Case). IsUnlike z t.name x) cases (c.in_ok-wanted.ensures.yes e)))
    (λ e. shared-not o s ws t x h (subst (λ (z : Case). IfSome x.shared_from (λ n. AreOneBelow z t.name n x.most)) cases (c.in_ok-wanted.ensures.no e)))
    c.in_ok-put_name.ensures.yes c.in_ok-put_name.ensures.no (c.loop-state.invariant o s ws cases all seen)
