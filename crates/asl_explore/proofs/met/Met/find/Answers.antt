use Rattle.std.proofs.Common.{◌-◌, arith}
use Rattle.asl_branch_numbers.specs.Numbers.{branches_in}
use Rattle.asl_explore.proofs.Comparing.{like-stands}
use Rattle.asl_explore.proofs.met.Met.find.Goals as goal

pub returns-then-is_like : goal.returns-then-is_like
returns-then-is_like c known many over =
    let met = c.args.self.now in
    let like = c.is_like.ensures in
    let yes = c.if-is_like.true in
    like-stands (branches_in met.branches) met.states met.deadline c.args.numbers.now c.args.world.now known many over met.nodes.items (c.loop.number - 1) c.index-node.result.now met.numbered
    (omega (arith, met.nodes.ok.0, c.len.ensures, c.if-number-eq0.false, c.if-number-len.false)) c.index-node.ensures
    (like.some yes) (like.numbers yes) (like.last yes) (like.runs yes) (like.also yes) (like.counts yes)
