use Rattle.asl_branch_numbers.specs.Numbers.{branches_in}
use Rattle.asl_explore.proofs.Comparing.{behind-counts, behind-deadline, behind-known, behind-node}
use Rattle.asl_explore.proofs.met.Met.numbers_of.Goals as goal

pub returns-in_err-known-clause-counts : goal.returns-in_err-known-clause-counts
returns-in_err-known-clause-counts c behind =
    let met = c.args.self.now in
    behind-counts (branches_in met.branches) met.states met.deadline met.nodes.items met.numbered c.args.parent c.requires c.args.stepped.now c.args.world.now behind c.index-node.result.now c.index-node.ensures

pub returns-in_err-known-clause-deadline : goal.returns-in_err-known-clause-deadline
returns-in_err-known-clause-deadline c behind =
    let met = c.args.self.now in
    behind-deadline (branches_in met.branches) met.states met.deadline met.nodes.items met.numbered c.args.parent c.requires c.args.stepped.now c.args.world.now behind c.index-node.result.now c.index-node.ensures

pub returns-in-Some-clause-numbers : goal.returns-in-Some-clause-numbers
returns-in-Some-clause-numbers c behind some =
    let met = c.args.self.now in
    (rw c.deref.ensures.value at (rw c.in-Some.is at c.in_ok-known.ensures))
    (behind-known (branches_in met.branches) met.states met.deadline met.nodes.items met.numbered c.args.parent c.requires c.args.stepped.now c.args.world.now behind c.index-node.result.now c.index-node.ensures)
    (behind-node (branches_in met.branches) met.states met.deadline met.nodes.items met.numbered c.args.parent c.requires c.args.stepped.now c.args.world.now behind c.index-node.result.now c.index-node.ensures)

pub returns-in-Some-clause-counts : goal.returns-in-Some-clause-counts
returns-in-Some-clause-counts c behind =
    let met = c.args.self.now in
    behind-counts (branches_in met.branches) met.states met.deadline met.nodes.items met.numbered c.args.parent c.requires c.args.stepped.now c.args.world.now behind c.index-node.result.now c.index-node.ensures

pub returns-in-Some-clause-deadline : goal.returns-in-Some-clause-deadline
returns-in-Some-clause-deadline c behind =
    let met = c.args.self.now in
    behind-deadline (branches_in met.branches) met.states met.deadline met.nodes.items met.numbered c.args.parent c.requires c.args.stepped.now c.args.world.now behind c.index-node.result.now c.index-node.ensures

pub returns-in-None-clause-counts : goal.returns-in-None-clause-counts
returns-in-None-clause-counts c behind =
    let met = c.args.self.now in
    behind-counts (branches_in met.branches) met.states met.deadline met.nodes.items met.numbered c.args.parent c.requires c.args.stepped.now c.args.world.now behind c.index-node.result.now c.index-node.ensures

pub returns-in-None-clause-deadline : goal.returns-in-None-clause-deadline
returns-in-None-clause-deadline c behind =
    let met = c.args.self.now in
    behind-deadline (branches_in met.branches) met.states met.deadline met.nodes.items met.numbered c.args.parent c.requires c.args.stepped.now c.args.world.now behind c.index-node.result.now c.index-node.ensures
