use Rattle.std.proofs.Common.{arith}
use Rattle.asl_explore.specs.Remarks.{IsCutOff, IsNamed}
use Rattle.asl_explore.proofs.Listing.{told-all}
use Rattle.asl_explore.proofs.Told.{cut-off-not, cut-off-so, named-more, sight-seen, stated-at}
use Rattle.asl_explore.proofs.remarking.cut_off_in.Goals as goal

pub loop-state-preserved : goal.loop-state-preserved
loop-state-preserved c o s ws all seen =
    let ts = c.args.states.now in
    let i = c.loop-state.state-index in
    let t = c.state-item.result in
    let x = c.sight_of-sight.result in
    let h = sight-seen o s ws c.args.sights.now t x (stated-at s.machine ts i t c.loop-state-test.true c.state-item.is all) seen c.sight_of-sight.ensures in
    named-more (IsCutOff s ws) ts i t c.loop-state.names.items c.put_name.new.out.items x.is_cut_off c.loop-state-test.true c.state-item.is
    (cut-off-so o s ws t x h) (cut-off-not o s ws t x h)
    c.in_ok-put_name.ensures.yes c.in_ok-put_name.ensures.no (c.loop-state.invariant o s ws all seen)

pub returns : goal.returns
returns c o s ws all seen = told-all (IsNamed (IsCutOff s ws)) c.args.states.now c.loop-state.state-index c.loop-state.names.items (omega (arith, c.loop-state-test.false)) (c.loop-state.invariant o s ws all seen)
