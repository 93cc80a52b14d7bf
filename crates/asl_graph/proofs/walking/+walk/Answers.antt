use Rattle.std.proofs.Common.{arith}
use Rattle.asl_json.specs.View.{data_of}
use Rattle.asl_json.proofs.Depths.{member_under, item_under}
use Rattle.asl_graph.proofs.walking.+walk.Goals as goal

pub put_branches-put_boxed-requires : goal.put_branches-put_boxed-requires
put_branches-put_boxed-requires t c =
    let under = item_under (data_of c.args.branches.now) c.items-branch-items.result.now c.loop-number.number c.branch-item.result c.loop-number-test.true c.branch-item.is c.items-branch-items.ensures in
    (omega (arith, under), tt)

pub put_inner_lines-put_state_part-requires : goal.put_inner_lines-put_state_part-requires
put_inner_lines-put_state_part-requires t c =
    let under = member_under (data_of c.args.state.now) c.members-member-items.result.now c.loop-member.member-index c.member-item.result c.loop-member-test.true c.member-item.is c.members-member-items.ensures.members in
    (omega (arith, under), tt)

pub put_machine_lines-put_machine_part-requires : goal.put_machine_lines-put_machine_part-requires
put_machine_lines-put_machine_part-requires t c =
    let under = member_under (data_of c.args.machine.now) c.members-member-items.result.now c.loop-member.member-index c.member-item.result c.loop-member-test.true c.member-item.is c.members-member-items.ensures.members in
    (omega (arith, under), tt)

pub put_states_lines-put_inner_lines-requires : goal.put_states_lines-put_inner_lines-requires
put_states_lines-put_inner_lines-requires t c =
    let under = member_under (data_of c.args.states.now) c.members-member-items.result.now c.loop-member.member-index c.member-item.result c.loop-member-test.true c.member-item.is c.members-member-items.ensures.members in
    (omega (arith, under), tt)
