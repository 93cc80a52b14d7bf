use Rattle.asl_branch_numbers.specs.Numbers.{branches_in, IsMore}
use Rattle.asl_branch_numbers.proofs.branches.Branches.learn.Given as goal

-- more branches have numbers
abbrev pub invariant-loop-index : goal.invariant-loop-index
invariant-loop-index l = IsMore (branches_in l.fn.self) (branches_in l.self)
