use Rattle.asl_json.specs.View.{members_of}
use Rattle.asl_def_judge.proofs.Walking.{groups_step, groups_end}
use Rattle.asl_def_judge.proofs.walk.group_fault.Goals as goal

pub loop-group-preserved : goal.loop-group-preserved
loop-group-preserved c = groups_step (members_of c.args.members.now) _ c.loop-group.fault c.sooner-fault.result c.undecided.result c.args.groups.now c.loop-group.group-index _ c.loop-group-test.true c.loop-group.invariant c.undecided.ensures c.sooner-fault.ensures

pub returns : goal.returns
returns c = groups_end (members_of c.args.members.now) _ c.loop-group.fault c.args.groups.now c.loop-group.group-index c.loop-group-test.false c.loop-group.invariant
