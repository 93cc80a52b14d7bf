use Rattle.std.proofs.Common.{arith}
use Rattle.asl_json.specs.View.{data_of}
use Rattle.asl_json.proofs.Depths.{member_under, item_under}
use Rattle.asl_state_names.proofs.naming.+name.Goals as goal

pub add_branches-add_machine-requires : goal.add_branches-add_machine-requires
add_branches-add_machine-requires t c =
    let under = item_under (data_of c.args.branches.now) c.items-branch-items.result.now c.loop-i.i c.branch-item.result c.loop-i-test.true c.branch-item.is c.items-branch-items.ensures in
    (omega (arith, under), tt)

pub add_state-add_state_part-requires : goal.add_state-add_state_part-requires
add_state-add_state_part-requires t c =
    let under = member_under (data_of c.args.state.now) c.members-member-items.result.now c.loop-i.i c.member-item.result c.loop-i-test.true c.member-item.is c.members-member-items.ensures.members in
    (omega (arith, under), tt)

pub add_machine-add_machine_part-requires : goal.add_machine-add_machine_part-requires
add_machine-add_machine_part-requires t c =
    let under = member_under (data_of c.args.machine.now) c.members-member-items.result.now c.loop-i.i c.member-item.result c.loop-i-test.true c.member-item.is c.members-member-items.ensures.members in
    (omega (arith, under), tt)

pub add_states-add_state-requires : goal.add_states-add_state-requires
add_states-add_state-requires t c =
    let under = member_under (data_of c.args.among.now) c.members-state-items.result.now c.loop-i.i c.state-item.result c.loop-i-test.true c.state-item.is c.members-state-items.ensures.members in
    (omega (arith, under), tt)
