use Rattle.asl_explore.specs.Remarks.{IsUnentered}
use Rattle.asl_explore.proofs.Told.{named-more, sight-seen, stated-at, unentered-not, unentered-so}
use Rattle.asl_explore.proofs.remarking.unentered_in.Goals as goal

pub loop-state-preserved : goal.loop-state-preserved
loop-state-preserved c o s ws all seen =
    let ts = c.args.states.now in
    let i = c.loop-state.state-index in
    let t = c.state-item.result in
    let x = c.sight_of.result in
    let b = c.is_unentered-wanted.result in
    let h = sight-seen o s ws c.args.sights.now t x (stated-at s.machine ts i t c.loop-state-test.true c.state-item.is all) seen c.sight_of.ensures in
    named-more (IsUnentered c.args.complete o s ws) ts i t c.loop-state.names.items c.put_name.new.out.items b c.loop-state-test.true c.state-item.is
    (unentered-so o s ws t x h c.args.complete b c.is_unentered-wanted.ensures) (unentered-not o s ws t x h c.args.complete b c.is_unentered-wanted.ensures)
    c.in_ok-put_name.ensures.yes c.in_ok-put_name.ensures.no (c.loop-state.invariant o s ws all seen)
