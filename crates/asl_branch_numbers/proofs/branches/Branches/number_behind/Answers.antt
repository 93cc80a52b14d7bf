use Rattle.asl_branch_numbers.specs.Numbers.{branches_in}
use Rattle.asl_branch_numbers.proofs.AsNumbers.{kept-is}
use Rattle.asl_branch_numbers.proofs.branches.Branches.number_behind.Goals as goal

pub returns-in-Some : goal.returns-in-Some
returns-in-Some c known behind =
    kept-is (branches_in c.args.self.now) c.args.numbers.now c.args.before.now c.args.world.now c.args.stepped.now c.args.place.now c.in-Some.index
    c.is_in_order.ensures (rw c.in-Some.is at c.requires) known behind
