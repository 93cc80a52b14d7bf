use Rattle.asl_json.specs.View.{members_of}
use Rattle.asl_lint_faults.proofs.Going.{goes-start, groups_step, groups_end}
use Rattle.asl_lint_faults.proofs.walk.group_faults.Goals as goal

pub loop-group-init : goal.loop-group-init
loop-group-init c = goes-start _ _ c.new-told.ensures.items

pub loop-group-preserved : goal.loop-group-preserved
loop-group-preserved c = groups_step (members_of c.args.members.now) _ c.loop-group.told.items c.tell.new.told.items c.undecided.result c.args.groups.now c.loop-group.group-index _ c.loop-group-test.true c.loop-group.invariant c.undecided.ensures c.in_ok-tell.ensures

pub returns : goal.returns
returns c = groups_end (members_of c.args.members.now) _ c.loop-group.told.items c.args.groups.now c.loop-group.group-index c.loop-group-test.false c.loop-group.invariant
